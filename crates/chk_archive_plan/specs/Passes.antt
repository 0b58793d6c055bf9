-- What a pass over heads that stand in order reaches, stream after stream.
use Rattle.std.specs.Prelude.{◌≡◌, ℕ, ◌≤◌, ◌<◌, Bool, true, false, ◌&&◌, nat_lt, nat_le, IsTrue, IsFalse, List, [], ◌∷◌, length, take, drop, Option, Some, None, if◌then◌else◌}
use Rattle.std.specs.List.Sorted.{IsSortedBy}
use Rattle.chk_chunk.specs.Keys.{Stream, same_stream, stream_lt}
use Rattle.chk_record_index.specs.Heads.{Head}
use Rattle.chk_record_index.specs.Order.{of_one_stream}
use Rattle.chk_archive_plan.specs.declared.spans.Span.{Span}
use Rattle.chk_archive_plan.specs.declared.spans.Known.{Known}
pub use Rattle.chk_record_index.specs.Order.{head_in}

-- the elements from one place up to another
abbrev pub between : {X : Type 0} → ℕ → ℕ → List X → List X
between i j xs = drop i (take j xs)

-- the head begins at or below the end reached so far, and ends past it
abbrev pub head_goes : ℕ → Head → Bool
head_goes reached h = nat_le h.begin reached && nat_lt reached h.key.seq

-- the end reached up to the first head that begins past it
abbrev pub pass_end : ℕ → List Head → ℕ
pass_end reached [] = reached
pass_end reached (h ∷ hs) = elim (head_goes reached h) [
  | true ↦ pass_end h.key.seq hs
  | false ↦ elim (nat_lt reached h.begin) [ true ↦ reached | false ↦ pass_end reached hs ]
]

-- from that head on
abbrev pub pass_past : ℕ → List Head → List Head
pass_past reached [] = []
pass_past reached (h ∷ hs) = elim (head_goes reached h) [
  | true ↦ pass_past h.key.seq hs
  | false ↦ elim (nat_lt reached h.begin) [ true ↦ h ∷ hs | false ↦ pass_past reached hs ]
]

abbrev pub known_stream : Known → Stream
known_stream k = record { source = k.source.now; kind = k.kind.now; name = k.name.now }

-- no known stream comes before the one in front of it
abbrev pub AreSorted : List Known → Type 0
AreSorted ks = IsSortedBy (λ k l. stream_lt (known_stream k) (known_stream l)) ks

-- what is known of a stream
abbrev pub known_of : List Known → Stream → Option Known
known_of [] s = None
known_of (k ∷ ks) s = if same_stream (known_stream k) s then Some k else known_of ks s

-- where a stream's archive ends: as it is known, or else at the head's own start
abbrev pub begins_at : List Known → Head → ℕ
begins_at [] h = h.key.start
begins_at (k ∷ ks) h =
    let s : Stream = record { source = k.source.now; kind = k.kind.now; name = k.name.now } in
    if same_stream s h.key.stream then k.end else begins_at ks h

-- the span is all of one stream from its first head on, and this is what the pass over it reaches
pub record IsSpan (known : List Known) (heads : List Head) (s : Span) : Type 0 where
  pub beyond : s.first < s.end
  pub within : s.end ≤ length heads
  pub one : (k : ℕ) → s.first ≤ k → k < s.end → IsTrue
      (of_one_stream (head_in heads s.first) (head_in heads k))
  pub next : s.end < length heads → IsFalse
      (of_one_stream (head_in heads s.first) (head_in heads s.end))
  pub from : s.from ≡ begins_at known (head_in heads s.first)
  pub low : s.first ≤ s.past
  pub high : s.past ≤ s.end
  pub reached : s.reached ≡ pass_end s.from (between s.first s.end heads)
  pub past : between s.past s.end heads ≡ pass_past s.from (between s.first s.end heads)

-- the spans follow each other from one place to another
abbrev pub AreSpans : List Known → List Head → ℕ → List Span → ℕ → Type 0
AreSpans known heads at [] to = at ≡ to
AreSpans known heads at (s ∷ ss) to =
    (s.first ≡ at) × IsSpan known heads s × AreSpans known heads s.end ss to
