-- Heads and ends in the order of their streams, and where a stream stands among them.
use Rattle.std.specs.Prelude.{◌≡◌, ℕ, Bool, true, false, ◌<◌, ◌≤◌, IsTrue, IsFalse, List, [], ◌∷◌, length}
use Rattle.std.specs.Prelude.{Option, Some, None, if◌then◌else◌}
use Rattle.std.specs.List.Sorted.{IsPartitionPoint, IsSortedBy}
use Rattle.chk_chunk.specs.Keys.{Stream, same_stream, stream_lt}
use Rattle.chk_world.specs.Books.{End}
use Rattle.chk_record_index.specs.Heads.{Head}
use Rattle.chk_record_index.specs.Order.{head_in}
use Rattle.chk_book.specs.Views.{end_view}
use Rattle.chk_book.specs.declared.lists.End.{End as Struct}

-- the stream of the head at a place
abbrev pub stream_in : List Head → ℕ → Stream
stream_in heads i = (head_in heads i).key.stream

-- no head's stream comes before that of an earlier one
abbrev pub StreamsRise : List Head → Type 0
StreamsRise heads =
    (i j : ℕ) → i < j → j < length heads → IsFalse (stream_lt (stream_in heads j) (stream_in heads i))

-- the streams of the heads before this place come before this one, and those of the heads from
-- there on don't
pub record IsPlaceOf (heads : List Head) (s : Stream) (at : ℕ) : Type 0 where
  pub within : at ≤ length heads
  pub before : (k : ℕ) → k < at → IsTrue (stream_lt (stream_in heads k) s)
  pub behind : (k : ℕ) → at ≤ k → k < length heads → IsFalse (stream_lt (stream_in heads k) s)

-- the first one's stream comes before the other's
abbrev pub end_before : Struct → Struct → Bool
end_before d e = stream_lt (end_view d).stream (end_view e).stream

-- no end's stream comes before that of the end in front of it
abbrev pub EndsRise : List Struct → Type 0
EndsRise ends = IsSortedBy end_before ends

-- the streams of the ends before this place come before this one, and those from there on don't
abbrev pub IsEndPlace : List Struct → Stream → ℕ → Type 0
IsEndPlace ends s at =
    IsPartitionPoint (λ (e : Struct). stream_lt (end_view e).stream s ≡ true)
    (λ (e : Struct). stream_lt (end_view e).stream s ≡ false) ends at

-- the first end of the stream
abbrev pub end_of : Stream → List End → Option End
end_of s [] = None
end_of s (e ∷ es) = if same_stream s e.stream then Some e else end_of s es
