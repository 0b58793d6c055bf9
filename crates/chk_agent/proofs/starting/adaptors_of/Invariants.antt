use Rattle.std.proofs.Common.{map}
use Rattle.std.specs.Vec.Iter.{into_iter_items}
use Rattle.chk_checkpoint.specs.Lines.{shown}
use Rattle.chk_agent.specs.Loading.{AreLines}
use Rattle.chk_agent.proofs.StartingTables.{AreTaken}
use Rattle.chk_agent.proofs.starting.adaptors_of.Given as goal

-- the lines that are left may stand in a checkpoint, and those before them were taken
abbrev pub invariant-loop-line : goal.invariant-loop-line
invariant-loop-line l =
    (goal.iterator-loop-line).can_next l.line-iterator × (goal.iterator-loop-line).is_finite l.line-iterator
    × AreLines (map shown (into_iter_items l.line-iterator))
    × AreTaken l.fn.lines.items (into_iter_items l.line-iterator) l.adaptors.items
