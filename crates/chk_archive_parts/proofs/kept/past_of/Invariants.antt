use Rattle.std.proofs.Common.{◌≡◌, ◌++◌, length, drop}
use Rattle.chk_archive_parts.specs.Kept.{past_cuts, AreWhole}
use Rattle.chk_archive_parts.proofs.kept.past_of.Given as goal

abbrev pub invariant-loop-span : goal.invariant-loop-span
invariant-loop-span l = record {
  so_far : l.cuts ++ past_cuts l.heads (drop l.span-index l.spans) ≡ past_cuts l.heads l.spans;
  whole : AreWhole (length l.heads) l.cuts;
}
