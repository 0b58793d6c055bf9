use Rattle.std.proofs.Common.{◌≡◌, drop}
use Rattle.chk_site_rotations.specs.Generations.{first_in}
use Rattle.chk_site_rotations.proofs.generations.first_of.Given as goal

abbrev pub invariant-loop-name : goal.invariant-loop-name
invariant-loop-name l = first_in l.base l.after (drop l.name-index l.names) ≡ first_in l.base l.after l.names
