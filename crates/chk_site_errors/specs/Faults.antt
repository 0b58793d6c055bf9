-- Why a call on the machine was not done.
use Rattle.std.specs.Prelude.{Result, Ok, Err}
use Rattle.chk_site.specs.declared.acts.CallFault.{CallFault}
use Rattle.chk_site.specs.declared.acts.CallFault.TheVariants as Call
use Rattle.chk_site_errors.specs.declared.faults.SystemFault.{SystemFault}
use Rattle.chk_site_errors.specs.declared.faults.SystemFault.TheVariants.{Failed, Missing, Exists, Short, NoMemory}

-- the fault as a site answers it
abbrev pub call_fault : SystemFault → CallFault
call_fault (Failed error) = Call.Failed
call_fault Missing = Call.Missing
call_fault Exists = Call.Exists
call_fault (Short size) = Call.Short size
call_fault NoMemory = Call.NoMemory

-- the result as a site answers it
abbrev pub answer_of : {T : Type 0} → Result T SystemFault → Result T CallFault
answer_of (Ok value) = Ok value
answer_of (Err fault) = Err (call_fault fault)
