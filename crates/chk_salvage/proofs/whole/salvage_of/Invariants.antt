use Rattle.std.proofs.Common.{◌≡◌, ◌-◌, ◌++◌, length}
use Rattle.chk_salvage.specs.Front.{kept, skipped}
use Rattle.chk_salvage.specs.Readers.{bytes_in, place_in, items_left}
use Rattle.chk_salvage.proofs.whole.salvage_of.Given as goal

abbrev pub invariant-loop-entry : goal.invariant-loop-entry
invariant-loop-entry l = record {
  kept : l.entries ++ kept (items_left l.reader) ≡ kept (items_left l.fn.reader);
  skipped : l.skipped ++ skipped (items_left l.reader) ≡ skipped (items_left l.fn.reader);
}

abbrev pub decreases-loop-entry : goal.decreases-loop-entry
decreases-loop-entry l = length (bytes_in l.reader) - place_in l.reader
