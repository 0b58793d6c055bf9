use Rattle.std.proofs.Common.{◌≡◌, take}
use Rattle.chk_ctl_streams.proofs.newest.copy_of.Given as goal

abbrev pub invariant-loop-segment : goal.invariant-loop-segment
invariant-loop-segment l = l.copy ≡ take l.segment-index l.segments
