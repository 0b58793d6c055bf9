use Rattle.chk_ctl_machine.specs.Locks.{unseen}
use Rattle.chk_ctl_machine.proofs.Causes.{locks_seen}
use Rattle.chk_ctl_machine.proofs.locks.see_locks.Goals as goal

pub returns-in-Ok : goal.returns-in-Ok
returns-in-Ok g c =
    locks_seen _ c.locks_of.result (λ v. v.items) _ c.as_slice.ensures.value c.in-Ok.ensures
    c.locks_held-held.ensures c.locks_of.ensures

pub returns-in-Err : goal.returns-in-Err
returns-in-Err g c = unseen c.in-Err.ensures
