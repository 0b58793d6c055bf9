-- What holds of demultiplexed records at every moment.
use Rattle.std.specs.Prelude.{ℕ, List}
use Rattle.chk_site.specs.History.{History, files_after}
use Rattle.chk_chunk.specs.Keys.{Stream}
use Rattle.chk_world.specs.Committed.{archive_of_stream}
use Rattle.chk_world.specs.Jobs.{Continues}
use Rattle.chk_world.specs.Rules.{Legal}
use Rattle.chk_world.specs.Splits.{split, demuxed_records}
use Rattle.chk_world.specs.Streams.{start_of}

-- in a legal history the records of each stream are the first ones of the split of its archive
abbrev pub RecordsAreTheSplit : Type 0
RecordsAreTheSplit =
    (stamped : List (List ℕ)) (history : History) → Legal stamped history → (s : Stream)
    → Continues (demuxed_records (files_after history) s)
    (split stamped s (start_of history s) (archive_of_stream (files_after history) s))
