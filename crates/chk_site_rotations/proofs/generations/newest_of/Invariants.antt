use Rattle.std.proofs.Common.{◌≡◌, ◌-◌, length, take}
use Rattle.chk_site_rotations.specs.Generations.{newest_in, text_at}
use Rattle.chk_site_rotations.proofs.generations.newest_of.Given as goal

abbrev pub invariant-loop-passed : goal.invariant-loop-passed
invariant-loop-passed l =
    newest_in l.base (text_at l.below) (take (length l.names - l.passed) l.names)
    ≡ newest_in l.base (text_at l.below) l.names
