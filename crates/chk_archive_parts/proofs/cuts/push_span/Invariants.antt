use Rattle.std.proofs.Common.{◌≡◌, ◌++◌, length}
use Rattle.chk_archive_parts.specs.Cuts.{span_cuts, AreWithin}
use Rattle.chk_archive_parts.proofs.Passed.{left}
use Rattle.chk_archive_parts.proofs.cuts.push_span.Given as goal

abbrev pub invariant-loop-index : goal.invariant-loop-index
invariant-loop-index l = record {
  so_far : l.cuts ++ left l.heads l.span.end l.index l.reached ≡ l.initial.cuts ++ span_cuts l.heads l.span;
  within : AreWithin (length l.heads) l.cuts;
}
