use Rattle.std.proofs.Common.{◌≡◌, ◌-◌, ◌++◌, length}
use Rattle.chk_salvage.specs.Readers.{bytes_in, marker_in, place_in, HasReadSo, records_left}
use Rattle.chk_salvage.proofs.whole.front_of.Given as goal

abbrev pub invariant-loop-entry : goal.invariant-loop-entry
invariant-loop-entry l = record {
  bytes : bytes_in l.reader ≡ bytes_in l.fn.reader;
  marker : marker_in l.reader ≡ marker_in l.fn.reader;
  read : HasReadSo l.reader;
  given : l.entries ++ records_left l.reader ≡ records_left l.fn.reader;
}

abbrev pub decreases-loop-entry : goal.decreases-loop-entry
decreases-loop-entry l = length (bytes_in l.reader) - place_in l.reader
