use Rattle.std.proofs.Common.{option_map, string_bytes}
use Rattle.chk_ctl_machine.specs.Locks.{FindsLock}
use Rattle.chk_ctl_machine.specs.Turns.{none_left}
use Rattle.chk_ctl_machine.proofs.Steps.{turn_next}
use Rattle.chk_ctl_machine.proofs.locks.locks_of.Goals as goal

pub loop-name-init : goal.loop-name-init
loop-name-init g c = rw c.new-locks.ensures.items none_left

pub loop-name-preserved : goal.loop-name-preserved
loop-name-preserved g c =
    let l = c.loop-name in
    rw c.in_ok-add_lock-in-Ok.ensures.ok
    (turn_next (FindsLock (option_map string_bytes c.args.held.now)) c.args.names.now
    l.locks.items l.name-index c.name-item.result c.in-Ok.lock _ _ _ c.loop-name-test.true
    l.invariant (rw c.name-item.is at c.in-Ok.ensures))
