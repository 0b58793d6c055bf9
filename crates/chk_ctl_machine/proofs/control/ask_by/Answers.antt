use Rattle.chk_world.specs.JobSteps.{IsOf}
use Rattle.chk_ctl_status.specs.Doors.{AsksList}
use Rattle.chk_ctl_machine.proofs.Inspections.{asks_list}
use Rattle.chk_ctl_machine.proofs.Causes.{own_as}
use Rattle.chk_ctl_machine.proofs.control.ask_by.Goals as goal

pub returns-in-Ok-ask_list-clause-own : goal.returns-in-Ok-ask_list-clause-own
returns-in-Ok-ask_list-clause-own g c =
    own_as (IsOf AsksList) (λ before step x. asks_list x) c.in-Ok-ask_list.ensures.own

pub returns-in-Ok-clause-own : goal.returns-in-Ok-clause-own
returns-in-Ok-clause-own g c =
    own_as (IsOf AsksList) (λ before step x. asks_list x) c.in-Err-ask_list.ensures.own
