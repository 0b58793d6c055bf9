use Rattle.std.proofs.Common.{◌≡◌, drop}
use Rattle.chk_world.specs.Splits.{fits_pattern}
use Rattle.chk_demux_split.proofs.lines.fits_pattern.Given as goal

abbrev pub invariant-loop-at : goal.invariant-loop-at
invariant-loop-at l =
    fits_pattern (drop l.at l.pattern) (drop l.at l.bytes) ≡ fits_pattern l.pattern l.bytes
