use Rattle.std.proofs.Common.{◌≡◌, ◌++◌, length}
use Rattle.chk_archive_plan.specs.Passes.{between}
use Rattle.chk_archive_parts.specs.Kept.{whole_from, AreWhole}
use Rattle.chk_archive_parts.proofs.kept.push_past.Given as goal

abbrev pub invariant-loop-index : goal.invariant-loop-index
invariant-loop-index l = record {
  so_far : l.cuts ++ whole_from l.index (between l.index l.span.end l.heads)
      ≡ l.initial.cuts ++ whole_from l.span.past (between l.span.past l.span.end l.heads);
  whole : AreWhole (length l.heads) l.cuts;
}
