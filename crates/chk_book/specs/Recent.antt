-- The stream of the last key is that of the last of the ends that are noted.
use Rattle.std.specs.Prelude.{ℕ, ◌-◌, ◌<◌, List, length, slice_index_or, IsTrue}
use Rattle.chk_chunk.specs.Keys.{Stream, Key, is_key, same_stream}
use Rattle.chk_record_index.specs.LastKeys.{IsButSeq}
use Rattle.chk_book.specs.declared.lists.End.{End}
use Rattle.chk_book.specs.Views.{end_view}

-- the last end is of this stream
abbrev pub IsLast : Stream → List End → Type 0
IsLast s ends =
    (0 < length ends) × ((x : End) → IsTrue (same_stream (end_view (slice_index_or ends (length ends - 1) x)).stream s))

-- a key that the bytes are, but for its sequence id, is of the stream of the last end
abbrev pub IsRecent : List ℕ → List End → Type 0
IsRecent bytes ends = (k : Key) → IsTrue (is_key k) → IsButSeq k bytes → IsLast k.stream ends
