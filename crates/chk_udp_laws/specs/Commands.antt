-- The command `udp` is a run that uses a writer's buffers.
use Rattle.std.specs.Prelude.{◌≡◌, ℕ, List, Option, Some, None, Result, Ok, Err}
use Rattle.chk_site.specs.declared.acts.Who.{Who}
use Rattle.chk_site.specs.History.{History}
use Rattle.chk_wahead.specs.declared.fault.WaheadFault.{WaheadFault}
use Rattle.chk_wahead.specs.Names.{writer}
use Rattle.chk_wahead.specs.States.{State}
use Rattle.chk_cmd_udp.specs.Runs.{HasRun}
use Rattle.chk_udp_laws.specs.Uses.{IsRun}

-- a run that ends without a buffer where it was done
abbrev pub IsRunOf : Result (Unit {0}) WaheadFault → Who → Option History → Option History → Type 0
IsRunOf (Ok value) who old new = (s : State) × (s.held ≡ None) × IsRun who (Some s) old new
IsRunOf (Err fault) who old new = IsRun who None old new

-- each run of the command is one
abbrev pub CommandsAreRuns : Type 0
CommandsAreRuns =
    (n door : List ℕ) (teller : Who) (turns rotate messages : ℕ)
    (result : Result (Unit {0}) WaheadFault) (old new : Option History)
    → HasRun (writer n) teller door turns rotate messages result old new
    → IsRunOf result (writer n) old new
