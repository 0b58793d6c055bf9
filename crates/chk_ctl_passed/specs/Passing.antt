-- What an agent's checkpoint says of the oldest generation of a log, as both are read.
use Rattle.std.specs.Prelude.{◌≡◌, ◌⊎◌, ℕ, List, Option, Result, Ok, Err}
use Rattle.chk_site.specs.declared.acts.OutsideFault.{OutsideFault}
use Rattle.chk_site.specs.declared.acts.Who.{Who}
use Rattle.chk_site.specs.Effect.{IsSmallFile}
use Rattle.chk_site.specs.Files.{File}
use Rattle.chk_site.specs.History.{Step, History, Every}
use Rattle.chk_site.specs.Runs.{anyhow, Leads}
use Rattle.chk_site.specs.Site.{Adds}
use Rattle.chk_replace.specs.Load.{Has, IsLook}
use Rattle.chk_replace.specs.Replace.{LeavesFile}
use Rattle.chk_world.specs.Checkpoints.{Line}
use Rattle.chk_world.specs.JobSteps.{IsOf}
use Rattle.chk_world.specs.Names.{CheckFile, spell}
use Rattle.chk_checkpoint.specs.declared.Checkpoint.{Checkpoint}
use Rattle.chk_checkpoint.specs.declared.fault.CheckFault.{CheckFault}
use Rattle.chk_checkpoint.specs.Faults.{check_fault}
use Rattle.chk_checkpoint.specs.Lines.{lines_of}
use Rattle.chk_checkpoint.specs.Loads.{LoadedLines}
use Rattle.chk_ctl_passed.specs.declared.oldest.Oldest.{Oldest}
use Rattle.chk_ctl_passed.specs.declared.judging.Verdict.{Verdict}
use Rattle.chk_ctl_passed.specs.Judging.{verdict_of}
use Rattle.chk_ctl_passed.specs.Oldest.{LooksAtLog, SawOldest}

-- the name of the agent's checkpoint
abbrev pub check_name : Who → List ℕ
check_name agent = spell (CheckFile agent.name)

-- the step is one of others, or a read of the checkpoint or of the log
abbrev pub Looks : Who → List ℕ → History → Step → Type 0
Looks agent path before step =
    IsLook agent (check_name agent) before step ⊎ IsOf (LooksAtLog path) before step

-- the verdict is by what was found of the log; or the refusal of a call
abbrev pub IsWeighed : List Line → List ℕ → Result Oldest OutsideFault → Result Verdict CheckFault
    → Type 0
IsWeighed lines path (Ok oldest) result = result ≡ Ok (verdict_of lines path oldest)
IsWeighed lines path (Err fault) result = result ≡ Err (check_fault fault)

-- the log's oldest generation is looked for, and the lines say whether it is passed
pub record Weighed (lines : List Line) (path : List ℕ) (result : Result Verdict CheckFault)
    (before after : Option History) : Type 0 where
  pub found : Result Oldest OutsideFault
  pub saw : Adds before after (SawOldest path found)
  pub own : Adds before after (Every (IsOf (LooksAtLog path)))
  pub is : IsWeighed lines path found result

-- what follows the read of the checkpoint
abbrev pub Followed : List ℕ → Result Checkpoint CheckFault → Result Verdict CheckFault
    → Option History → Option History → Type 0
Followed path (Ok check) result before after = Weighed (lines_of check) path result before after
Followed path (Err fault) result before after = (after ≡ before) × (result ≡ Err fault)

-- the checkpoint was read whole, and then the log was looked at
pub record HasPassed (agent : Who) (path : List ℕ) (result : Result Verdict CheckFault)
    (before after : Option History) : Type 0 where
  pub given : Result Checkpoint CheckFault
  pub middle : Option History
  pub loaded : (file : Option File) → IsSmallFile file → Adds before middle
      (Leads (anyhow (LeavesFile (check_name agent))) (Has (check_name agent) file)
      (LoadedLines (check_name agent) file given))
  pub reads : Adds before middle (Every (IsLook agent (check_name agent)))
  pub followed : Followed path given result middle after
