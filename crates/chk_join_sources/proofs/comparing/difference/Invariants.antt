use Rattle.std.proofs.Common.{◌≡◌, drop}
use Rattle.chk_join_sources.specs.Differences.{first_difference, further}
use Rattle.chk_join_sources.proofs.comparing.difference.Given as goal

abbrev pub invariant-loop-i : goal.invariant-loop-i
invariant-loop-i l = first_difference l.a l.b ≡ further l.i (first_difference (drop l.i l.a) (drop l.i l.b))
