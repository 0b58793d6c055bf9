-- The names of what may be wrong with a line of an initial file.
use Rattle.std.specs.Prelude.{ℕ, List, codes}
use Rattle.chk_control.specs.Answers.{bad_name, fault_number}
use Rattle.chk_control.specs.declared.commands.LineFault.{LineFault}
use Rattle.chk_control.specs.declared.commands.LineFault.TheVariants.{NoMemory}
use Rattle.chk_ctl_check.specs.declared.trouble.Trouble.{Trouble}
use Rattle.chk_ctl_check.specs.declared.trouble.Trouble.TheVariants.{Refused, NoAdd, StreamInUse}
use Rattle.chk_ctl_check.specs.declared.trouble.Trouble.TheVariants.{NameInUse, RelativePath}
use Rattle.chk_ctl_check.specs.declared.trouble.Trouble.TheVariants.{NoLog}
use Rattle.chk_ctl_check.specs.declared.trouble.Trouble.TheVariants.{Unreadable, RotatedName}
use Rattle.chk_ctl_check.specs.declared.trouble.Trouble.TheVariants.{NumberedName, CompressedName}

-- the name of a refusal, as the control door answers it
abbrev pub refused_name : LineFault → List ℕ
refused_name NoMemory = codes "NoMemory"
refused_name fault = bad_name (fault_number fault)

abbrev pub trouble_name : Trouble → List ℕ
trouble_name (Refused fault) = refused_name fault
trouble_name NoAdd = codes "NoAdd"
trouble_name StreamInUse = codes "StreamInUse"
trouble_name NameInUse = codes "NameInUse"
trouble_name RelativePath = codes "RelativePath"
trouble_name NoLog = codes "NoLog"
trouble_name Unreadable = codes "Unreadable"
trouble_name RotatedName = codes "RotatedName"
trouble_name NumberedName = codes "NumberedName"
trouble_name CompressedName = codes "CompressedName"
