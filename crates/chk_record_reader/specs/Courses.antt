-- Whether the records of a stream go on from each other, up to its end in a book.
use Rattle.std.specs.Prelude.{◌≡◌, ◌<◌, ℕ, Bool, ◌&&◌, ◌==◌, nat_le, List, [], ◌∷◌, length, slice_index_or, Option, Some, None, if◌then◌else◌}
use Rattle.chk_world.specs.JobSteps.{ReadsFile}
use Rattle.chk_site.specs.Acts.{Deed, Starts}
use Rattle.chk_chunk.specs.Keys.{Stream, same_stream}
use Rattle.chk_world.specs.Books.{End}
use Rattle.chk_record_index.specs.Heads.{Head}
use Rattle.chk_record_index.specs.Order.{no_head}
use Rattle.chk_record_reader.specs.declared.courses.Break.{Break}
use Rattle.chk_record_reader.specs.declared.courses.Break.TheVariants.{Head as BreakHead, End as BreakEnd}

-- the head is of this stream
abbrev pub is_head_of : Stream → Head → Bool
is_head_of s h = same_stream s h.key.stream

-- the end is that of this stream
abbrev pub is_end_of : Stream → End → Bool
is_end_of s e = same_stream s e.stream

-- the first end of the stream
abbrev pub end_of : Stream → List End → Option End
end_of s [] = None
end_of s (e ∷ es) = if is_end_of s e then Some e else end_of s es

-- the head has the stream's start, begins where the stream's records end so far, and doesn't end
-- past the stream's end
abbrev pub goes_on : End → ℕ → Head → Bool
goes_on e from h = h.key.start == e.start && (h.begin == from && nat_le h.key.seq e.end)

-- the first head of the stream that doesn't go on, its records having ended there before
abbrev pub first_break : Stream → End → ℕ → List Head → Option Head
first_break s e from [] = None
first_break s e from (h ∷ hs) =
    if is_head_of s h then (if goes_on e from h then first_break s e h.key.seq hs else Some h) else
    first_break s e from hs

-- where the stream's records end
abbrev pub reached : Stream → ℕ → List Head → ℕ
reached s from [] = from
reached s from (h ∷ hs) = if is_head_of s h then reached s h.key.seq hs else reached s from hs

-- the first head of the stream
abbrev pub first_head : Stream → List Head → Option Head
first_head s [] = None
first_head s (h ∷ hs) = if is_head_of s h then Some h else first_head s hs

-- the first head of the stream that doesn't go on; each one of a stream that isn't in the book is
-- such a head
abbrev pub break_by : Stream → Option End → List Head → Option Head
break_by s None heads = first_head s heads
break_by s (Some e) heads = first_break s e e.start heads

-- the stream's records reach this end
abbrev pub reaches : Stream → Option End → List Head → Type 0
reaches s None heads = Unit {0}
reaches s (Some e) heads = reached s e.start heads ≡ e.end

-- what is wrong with the records of a stream that ends so
abbrev pub IsBreakBy : Stream → Option End → List Head → Option Break → Type 0
IsBreakBy s o heads None = (break_by s o heads ≡ None) × reaches s o heads
IsBreakBy s o heads (Some (BreakHead index)) =
    (index < length heads) × (break_by s o heads ≡ Some (slice_index_or heads index no_head))
IsBreakBy s o heads (Some BreakEnd) = (break_by s o heads ≡ None) × (reaches s o heads → ⊥)

-- the calls: it starts, and reads
pub data Begins : Deed → Type 0 where
  starts : Begins Starts
  only_reads : (call : Deed) → ReadsFile call → Begins call
