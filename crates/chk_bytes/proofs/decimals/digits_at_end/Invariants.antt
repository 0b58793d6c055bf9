use Rattle.std.proofs.Common.{◌≡◌, ◌+◌, ◌<◌, ◌≤◌, ◌++◌, length, drop, decimal}
use Rattle.chk_bytes.proofs.decimals.digits_at_end.Given as goal

abbrev pub invariant-loop-rest : goal.invariant-loop-rest
invariant-loop-rest l = record {
  within : l.from < 20;
  room : length (decimal l.rest) ≤ l.from + 1;
  written : decimal l.n ≡ decimal l.rest ++ drop (l.from + 1) l.digits;
}

abbrev pub decreases-loop-rest : goal.decreases-loop-rest
decreases-loop-rest l = l.rest
