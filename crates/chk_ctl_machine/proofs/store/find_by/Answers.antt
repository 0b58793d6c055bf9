use Rattle.chk_world.specs.JobSteps.{IsOf}
use Rattle.chk_ctl_status_rows.specs.Sinks.{LooksAround}
use Rattle.chk_ctl_machine.proofs.Inspections.{looks}
use Rattle.chk_ctl_machine.specs.Stores.{read, unbegun}
use Rattle.chk_ctl_machine.proofs.Causes.{own_as}
use Rattle.chk_ctl_machine.proofs.store.find_by.Goals as goal

pub returns-in-Ok-clause-told : goal.returns-in-Ok-clause-told
returns-in-Ok-clause-told g c =
    rw c.found_as.ensures (read c.find_store-given.result c.find_store-given.ensures.told)

pub returns-in-Ok-clause-own : goal.returns-in-Ok-clause-own
returns-in-Ok-clause-own g c =
    own_as (IsOf LooksAround) (λ before step x. looks x) c.find_store-given.ensures.own

pub returns-in-Err-clause-told : goal.returns-in-Err-clause-told
returns-in-Err-clause-told g c = unbegun
