use Rattle.std.proofs.Common.{◌≡◌, ◌-◌}
use Rattle.chk_tee.specs.Faults.{teeds_wrong}
use Rattle.chk_tee.proofs.messages.check_teeds.Given as goal

-- what is wrong from here on is what is wrong
abbrev pub invariant-loop-done : goal.invariant-loop-done
invariant-loop-done l = teeds_wrong (l.count - l._done) l.at l.bytes ≡ teeds_wrong l.count 9 l.bytes
