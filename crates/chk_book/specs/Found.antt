-- What stands in the bytes of a book.
use Rattle.std.specs.Prelude.{◌≡◌, ℕ, ◌+◌, ◌*◌, ◌≤◌, Bool, true, false, not, List, ◌++◌, length, drop, map, Option, None}
use Rattle.std.specs.List.{list_all}
use Rattle.chk_bytes.specs.Words.{joined}
use Rattle.chk_chunk.specs.Keys.{Stream, stream_at, behind_stream}
use Rattle.chk_world.specs.Books.{Segment, End, segment_bytes, end_bytes, is_segment, segments_rise, is_end, ends_rise, begins_at_0, aside_bytes, is_aside, is_nothing}
use Rattle.chk_book.specs.Damage.{segments_damage, segments_there, end_damage, ends_damage, ends_place, comes_behind, texts_place, tail_damage}

-- so many segments stand from the place 17 on
pub record AreSegmentsAt (next count : ℕ) (bytes : List ℕ) (gs : List Segment) : Type 0 where
  pub fine : segments_damage count next 0 17 bytes ≡ None
  pub many : count ≡ length gs
  pub within : 17 + 16 * count ≤ length bytes
  pub stands : drop 17 bytes ≡ joined (map segment_bytes gs) ++ drop (17 + 16 * count) bytes
  pub sound : list_all (is_segment next) gs ≡ true
  pub rise : segments_rise gs ≡ true
  pub are : segments_there count 17 bytes ≡ gs

-- a stream stands there, behind the stream before, up to this place
pub record IsEndAt (starts : Bool) (last : Option Stream) (at : ℕ) (bytes : List ℕ) (e : End) (behind : ℕ) : Type 0 where
  pub fine : end_damage starts last at bytes ≡ None
  pub is : e.stream ≡ stream_at (texts_place starts at) bytes
  pub place : behind ≡ behind_stream (texts_place starts at) bytes
  pub within : behind ≤ length bytes
  pub stands : drop at bytes ≡ end_bytes starts e ++ drop behind bytes
  pub sound : is_end e ≡ true
  pub zero_start : starts ≡ false → begins_at_0 e ≡ true
  pub comes : comes_behind last e.stream ≡ true

-- so many streams stand there, up to this place
pub record AreEndsAt (starts : Bool) (count from : ℕ) (bytes : List ℕ) (es : List End) (at : ℕ) : Type 0 where
  pub fine : ends_damage count starts None from bytes ≡ None
  pub many : count ≡ length es
  pub place : at ≡ ends_place count starts from bytes
  pub within : at ≤ length bytes
  pub stands : drop from bytes ≡ joined (map (end_bytes starts) es) ++ drop at bytes
  pub sound : list_all is_end es ≡ true
  pub rise : ends_rise es ≡ true
  pub zero_starts : starts ≡ false → list_all begins_at_0 es ≡ true

-- behind the streams stands the aside segment, where the version has one, and nothing follows
pub record IsTailAt (aside : Bool) (next : ℕ) (gs : List Segment) (at : ℕ) (bytes : List ℕ) (o : Option Segment) : Type 0 where
  pub fine : tail_damage aside next gs at bytes ≡ None
  pub stands : drop at bytes ≡ aside_bytes o
  pub sound : is_aside next gs o ≡ true
  pub there : is_nothing o ≡ not aside
