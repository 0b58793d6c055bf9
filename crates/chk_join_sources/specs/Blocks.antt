-- Where a stream's heads stand among heads in order.
use Rattle.std.specs.Prelude.{ℕ, ◌-◌, ◌<◌, ◌≤◌, IsTrue, IsFalse, List, length}
use Rattle.chk_chunk.specs.Keys.{Stream, stream_lt}
use Rattle.chk_record_index.specs.Heads.{Head}
use Rattle.chk_record_reader.specs.Courses.{is_head_of}
pub use Rattle.chk_record_index.specs.Order.{head_in}

-- the stream of the head at a place
abbrev pub stream_in : List Head → ℕ → Stream
stream_in heads i = (head_in heads i).key.stream

-- no head's stream comes before that of an earlier one
abbrev pub StreamsRise : List Head → Type 0
StreamsRise heads =
    (i j : ℕ) → i < j → j < length heads → IsFalse (stream_lt (stream_in heads j) (stream_in heads i))

-- the streams of the heads before this place come before this one, and those of the heads behind it don't
pub record IsPlaceOf (heads : List Head) (s : Stream) (at : ℕ) : Type 0 where
  pub before : (k : ℕ) → k < at → IsTrue (stream_lt (stream_in heads k) s)
  pub behind : (k : ℕ) → at ≤ k → k < length heads → IsFalse (stream_lt (stream_in heads k) s)

-- the same of the one head in front of this place, and of the one there
pub record StandsAt (heads : List Head) (s : Stream) (at : ℕ) : Type 0 where
  pub within : at ≤ length heads
  pub there : at < length heads → IsFalse (stream_lt (stream_in heads at) s)
  pub front : 0 < at → IsTrue (stream_lt (stream_in heads (at - 1)) s)

-- each head from the one place up to the other is of this stream
abbrev pub AllOf : List Head → Stream → ℕ → ℕ → Type 0
AllOf heads s first end = (k : ℕ) → first ≤ k → k < end → IsTrue (is_head_of s (head_in heads k))

-- the head at this place isn't of the stream
abbrev pub EndsAt : List Head → Stream → ℕ → Type 0
EndsAt heads s at = at < length heads → IsFalse (is_head_of s (head_in heads at))

-- no head of the stream stands before the one place, and none from the other one on
pub record HoldsStream (heads : List Head) (s : Stream) (first end : ℕ) : Type 0 where
  pub before : (k : ℕ) → k < first → IsFalse (is_head_of s (head_in heads k))
  pub behind : (k : ℕ) → end ≤ k → k < length heads → IsFalse (is_head_of s (head_in heads k))
