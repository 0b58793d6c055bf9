use Rattle.chk_ctl_machine.specs.Locks.{unbegun}
use Rattle.chk_ctl_machine.proofs.Causes.{locks_listed, locks_own}
use Rattle.chk_ctl_machine.proofs.locks.list_by.Goals as goal

pub returns-in-Ok-clause-told : goal.returns-in-Ok-clause-told
returns-in-Ok-clause-told g c =
    rw c.listed_as.ensures
    (locks_listed _ c.list-given.result (λ v. v.items) c.in-Ok.ensures c.list-given.ensures.told)

pub returns-in-Ok-clause-own : goal.returns-in-Ok-clause-own
returns-in-Ok-clause-own g c = locks_own c.in-Ok.ensures c.list-given.ensures.told

pub returns-in-Err-clause-told : goal.returns-in-Err-clause-told
returns-in-Err-clause-told g c = unbegun
