-- Streams' records in one file, followed from its first one on.
use Rattle.std.specs.Prelude.{◌≡◌, ◌≢◌, ◌<◌, ℕ, Bool, true, false, ◌&&◌, ◌||◌, ◌==◌, nat_le, nat_lt, List, [], ◌∷◌, ◌++◌, length, filter, slice_index_or, None, if◌then◌else◌}
use Rattle.chk_world.specs.Books.{End}
use Rattle.chk_world.proofs.Each.{Each}
use Rattle.chk_record_index.specs.Heads.{Head}
use Rattle.chk_record_reader.specs.Courses.{is_head_of, first_break, reached}
use Rattle.chk_record_reader.specs.OnePass.{end_at, IsListed}
use Rattle.chk_demux_scan.specs.Backward.{begin_in, AllRunBack}
use Rattle.chk_demux_scan.specs.declared.forward.Span.{Span}

-- a span of no records
abbrev pub no_span : Span
no_span = record { first = 0; next = 0 }

-- the head ends past the place of its stream
abbrev pub is_past : List End → List ℕ → Head → Bool
is_past [] places h = false
is_past (e ∷ es) [] h = false
is_past (e ∷ es) (p ∷ ps) h =
    if is_head_of e.stream h then nat_lt p h.key.seq else is_past es ps h

-- the heads that end past the places of their streams
abbrev pub past_of : List End → List ℕ → List Head → List Head
past_of es places hs = filter (is_past es places) hs

-- the head goes on from the stream's records in the file, if there are any
abbrev pub follows : End → Span → Head → Bool
follows e s h = h.key.start == e.start && (nat_le h.key.seq e.end
    && (s.first == s.next || s.next == h.begin))

-- no record of the stream is among these, or they go on from each other within the span
pub data IsSpan (e : End) (hs : List Head) (s : Span) : Type 0 where
  no_records : s.first ≡ s.next → Each (λ h. is_head_of e.stream h ≡ false) hs → IsSpan e hs s
  some_records : s.first < s.next → begin_in e hs ≡ s.first
      → first_break e.stream e s.first hs ≡ None → reached e.stream s.first hs ≡ s.next
      → IsSpan e hs s

-- so it is with each stream in the book, and no other one has records
pub record AreSpans (es : List End) (hs : List Head) (spans : List Span) : Type 0 where
  pub listed : Each (IsListed es) hs
  pub are : (k : ℕ) → k < length es → IsSpan (end_at es k) hs (slice_index_or spans k no_span)

-- whatever stands in front of these and behind them, the streams' records don't run
abbrev pub IsBroken : List End → List Head → Type 0
IsBroken es hs = (front later : List Head) → AllRunBack es (front ++ (hs ++ later)) → ⊥

-- the span with one record more
abbrev pub NextSpan : Span → Head → Span → Type 0
NextSpan s h t = (t.next ≡ h.key.seq)
    × (t.first ≡ (if s.first == s.next then h.begin else s.first))

-- the span's records stand in front of what begins there, or there are none
pub data JoinsSpan (s : Span) (old new : ℕ) : Type 0 where
  stays : s.first ≡ s.next → new ≡ old → JoinsSpan s old new
  joins : s.first ≢ s.next → s.next ≡ old → new ≡ s.first → JoinsSpan s old new

-- there are some, and they end elsewhere
abbrev pub LeavesSpan : Span → ℕ → Type 0
LeavesSpan s old = (s.first ≢ s.next) × (s.next ≢ old)

-- What was looked at are these heads: their spans are these, and those of what is new are held
-- behind the others; or they are broken, and nothing is said of what is held.
pub data Looks (es : List End) (places : List ℕ) (seen old new : List Head) (spans : List Span)
    : Bool → Type 0 where
  runs : AreSpans es seen spans → new ≡ old ++ past_of es places seen
      → Looks es places seen old new spans false
  breaks : IsBroken es seen → Looks es places seen old new spans true
