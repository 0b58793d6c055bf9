use Rattle.std.proofs.Common.{◌≡◌, ◌++◌, length, drop, flat_map}
use Rattle.chk_archive_parts.specs.Cuts.{span_cuts, AreWithin}
use Rattle.chk_archive_parts.proofs.cuts.cuts_of.Given as goal

abbrev pub invariant-loop-span : goal.invariant-loop-span
invariant-loop-span l = record {
  so_far : l.cuts ++ flat_map (span_cuts l.heads) (drop l.span-index l.spans) ≡ flat_map (span_cuts l.heads) l.spans;
  within : AreWithin (length l.heads) l.cuts;
}
