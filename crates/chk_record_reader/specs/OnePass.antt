-- Streams' records, followed in one pass over their heads.
use Rattle.std.specs.Prelude.{◌≡◌, ◌<◌, ℕ, List, [], length, true, slice_index, slice_index_or, slice_set, None}
use Rattle.chk_chunk.specs.Keys.{same_stream}
use Rattle.chk_world.specs.Books.{End}
use Rattle.chk_record_index.specs.Heads.{Head}
use Rattle.chk_record_reader.specs.Courses.{is_end_of, end_of, goes_on, first_break, reached}

-- an end of no stream
abbrev pub no_end : End
no_end = record { stream = record { source = []; kind = []; name = [] }; start = 0; end = 0 }

-- the end at this place
abbrev pub end_at : List End → ℕ → End
end_at es k = slice_index_or es k no_end

-- no two of the ends are of one stream
abbrev pub AreOnce : List End → Type 0
AreOnce es =
    (j k : ℕ) → j < length es → k < length es → same_stream (end_at es j).stream (end_at es k).stream ≡ true → j ≡ k

-- the head goes on from what is reached of its stream, whose end stands at this place
pub record TookHeadAt (es : List End) (before after : List ℕ) (h : Head) (k : ℕ) : Type 0 where
  pub within : k < length es
  pub found : is_end_of h.key.stream (end_at es k) ≡ true
  pub on : goes_on (end_at es k) (slice_index before k) h ≡ true
  pub taken : after ≡ slice_set before k h.key.seq

abbrev pub TookHead : List End → List ℕ → List ℕ → Head → Type 0
TookHead es before after h = (k : ℕ) × TookHeadAt es before after h k

-- what is reached of each stream is its end
abbrev pub AreReached : List End → List ℕ → Type 0
AreReached es rs = (k : ℕ) → k < length es → slice_index rs k ≡ (end_at es k).end

-- no head that was gone through breaks the stream's records, which reach this place; the rest is still to come
pub record IsCourse (heads rest : List Head) (e : End) (at : ℕ) : Type 0 where
  pub breaks : first_break e.stream e e.start heads ≡ first_break e.stream e at rest
  pub reaches : reached e.stream e.start heads ≡ reached e.stream at rest

abbrev pub AreCourses : List End → List Head → List Head → List ℕ → Type 0
AreCourses es heads rest rs = (k : ℕ) → k < length es → IsCourse heads rest (end_at es k) (slice_index rs k)

-- the head's stream has an end
abbrev pub IsListed : List End → Head → Type 0
IsListed es h = end_of h.key.stream es ≡ None → ⊥
