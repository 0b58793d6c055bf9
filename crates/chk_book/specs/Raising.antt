-- Where the end of a stream is raised.
use Rattle.std.specs.Prelude.{◌≡◌, ◌⊎◌, ℕ, ◌≤◌, ◌<◌, Bool, not, true, false, slice_index_or, ◌&&◌, List, [], ◌∷◌, ◌++◌, length, take, drop}
use Rattle.chk_chunk.specs.Keys.{same_stream, stream_lt}
use Rattle.chk_world.specs.Books.{End}
use Rattle.chk_book.specs.declared.lists.End.{End as EndStruct}
use Rattle.chk_book.specs.Views.{end_view}
use Rattle.chk_book.specs.Segmenting.{raised_end}

-- the end isn't that of the stream, and its stream doesn't come behind it
abbrev pub goes_by : End → End → Bool
goes_by d e = not (same_stream e.stream d.stream) && not (stream_lt d.stream e.stream)

-- it is raised, or put in, there: at the end of the list, or where an end isn't gone by
pub record IsPlaceOf (d : End) (es : List End) (at : ℕ) : Type 0 where
  pub within : at ≤ length es
  pub front : raised_end d es ≡ take at es ++ raised_end d (drop at es)
  pub stops : (drop at es ≡ []) ⊎ ((e : End) × (rest : List End) × (drop at es ≡ e ∷ rest) × (goes_by d e ≡ false))

-- going through the ends, the first ones are gone by
pub record ArePassed (d : End) (ends : List EndStruct) (n : ℕ) : Type 0 where
  pub within : n ≤ length ends
  pub passed : (k : ℕ) (x : EndStruct) → k < n → goes_by d (end_view (slice_index_or ends k x)) ≡ true

-- the one at this place comes before none of those up to it
abbrev pub AreUpTo : List EndStruct → ℕ → Type 0
AreUpTo ends at =
    (k : ℕ) (x : EndStruct) → k ≤ at → at < length ends
    → stream_lt (end_view (slice_index_or ends at x)).stream (end_view (slice_index_or ends k x)).stream ≡ false
