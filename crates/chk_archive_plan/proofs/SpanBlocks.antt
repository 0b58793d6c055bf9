-- The spans of heads that stand in order are the chunks of a stream each.
use Rattle.std.proofs.Common.{◌≡◌, inl, inr, ℕ, zero, suc, ◌<◌, ◌≤◌, true, false, List, [], ◌∷◌, ◌++◌, length, take, drop, ap, sym, subst, ◌∙◌, refl, arith, true≢false, append_assoc}
use Rattle.std.specs.Prelude.{map, slice_index_or}
use Rattle.std.proofs.Math.ListN.{drop_of_length-le}
use Rattle.std.proofs.lemmas.Bool.{cases_Bool, cases_eq, or_parts}
use Rattle.std.proofs.lemmas.List.{append_cancel_right}
use Rattle.chk_chunk.specs.Keys.{Stream, Chunk, same_stream, stream_lt, is_of}
use Rattle.chk_world.specs.ArchiveRuns.{comes_before}
use Rattle.chk_world.specs.TrueBooks.{HasBytes}
use Rattle.chk_world.proofs.Each.{Each}
use Rattle.chk_world.proofs.NameTests.{streams_same}
use Rattle.chk_record_index.specs.Heads.{Head}
use Rattle.chk_record_index.specs.Order.{no_head}
use Rattle.chk_record_index.proofs.Orders.{streams}
use Rattle.chk_archive_plan.specs.Plan.{reached_from, BeginsRise}
use Rattle.chk_archive_plan.specs.HeadsOf.{AreHeads}
use Rattle.chk_archive_plan.specs.Passes.{between, pass_past, head_in, IsSpan, AreSpans}
use Rattle.chk_archive_plan.specs.declared.spans.Span.{Span}
use Rattle.chk_archive_plan.specs.declared.spans.Known.{Known}
use Rattle.chk_archive_plan.proofs.ChunkOrder.{Ordered, NoneBefore, ordered_rise}
use Rattle.chk_archive_plan.proofs.Gaps.{past, behind_gap, past_is}
use Rattle.chk_archive_plan.proofs.Blocks.{Block, all_chunks, AreOf, AreBlocks, filter_all}
use Rattle.chk_archive_plan.proofs.Bridges.{each_index, each_between, each_behind, between_drop, same_ends, heads_at, same_size, heads_between, end_is, past_are, gap_ends}

abbrev no_chunk : Chunk
no_chunk = record { key = no_head.key; value = [] }

-- ---- chunks in order

ordered_at : (cs : List Chunk) → Ordered cs → (i j : ℕ) → i < j → j < length cs
    → comes_before (slice_index_or cs j no_chunk) (slice_index_or cs i no_chunk) ≡ false
ordered_at [] o i j low high = absurd (let z : ⊥ = omega (arith, high) in z)
ordered_at (c ∷ cs) o i zero low high = absurd (let z : ⊥ = omega (arith, low) in z)
ordered_at (c ∷ cs) o zero (suc j) low high =
    each_index (λ d. comes_before d c ≡ false) cs o.0 j (omega (arith, high)) no_chunk
ordered_at (c ∷ cs) o (suc i) (suc j) low high =
    ordered_at cs o.1 i j (omega (arith, low)) (omega (arith, high))

none_take : (c : Chunk) (n : ℕ) (ds : List Chunk) → NoneBefore c ds → NoneBefore c (take n ds)
none_take c zero ds none = tt
none_take c (suc n) [] none = tt
none_take c (suc n) (d ∷ ds) none = (none.0, none_take c n ds none.1)

ordered_take : (n : ℕ) (cs : List Chunk) → Ordered cs → Ordered (take n cs)
ordered_take zero cs o = tt
ordered_take (suc n) [] o = tt
ordered_take (suc n) (c ∷ cs) o = (none_take c n cs o.0, ordered_take n cs o.1)

ordered_drop : (n : ℕ) (cs : List Chunk) → Ordered cs → Ordered (drop n cs)
ordered_drop zero cs o = o
ordered_drop (suc n) [] o = tt
ordered_drop (suc n) (c ∷ cs) o = ordered_drop n cs o.1

-- ---- the spans

module _ (known : List Known) (hs : List Head) (cs : List Chunk) (heads : AreHeads hs cs)
    (o : Ordered cs) where
  abbrev stream_in : ℕ → Stream
  stream_in k = (head_in hs k).key.stream

  abbrev chunk_in : ℕ → Chunk
  chunk_in k = slice_index_or cs k no_chunk

  size : length hs ≡ length cs
  size = same_size hs cs heads

  stream_is : (k : ℕ) → k < length cs → stream_in k ≡ (chunk_in k).key.stream
  stream_is k low = ap (λ key. key.stream) (heads_at hs cs heads k no_head no_chunk low).key

  not_before : (i j : ℕ) → i < j → j < length cs → stream_lt (stream_in j) (stream_in i) ≡ false
  not_before i j low high =
      let i_high : i < length cs = omega (arith, low, high) in
      subst (λ s. stream_lt s (stream_in i) ≡ false) (sym (stream_is j high))
      (subst (λ s. stream_lt (chunk_in j).key.stream s ≡ false) (sym (stream_is i i_high))
      (or_parts (stream_lt (chunk_in j).key.stream (chunk_in i).key.stream) _
      (ordered_at cs o i j low high)).0)

  abbrev pub block_of : Span → Block
  block_of s = record { stream = stream_in s.first; chunks = between s.first s.end cs }

  of_one : (s : Span) → IsSpan known hs s → AreOf (stream_in s.first) true
      (between s.first s.end cs)
  of_one s span =
      let within = span.within in
      each_between (λ c. is_of (stream_in s.first) c ≡ true) cs s.first s.end no_chunk
      (omega (arith, within, size))
      (λ k low high. subst (λ t. same_stream (stream_in s.first) t ≡ true)
      (stream_is k (omega (arith, within, size, high))) (span.one k low high))

  -- a stream that comes behind the span is another one
  pub differs : (s : Span) → IsSpan known hs s → (j : ℕ) → s.end ≤ j → j < length cs
      → same_stream (stream_in s.first) (stream_in j) ≡ false
  differs s span j low high =
      let beyond = span.beyond in
      let end_high : s.end < length hs = omega (arith, low, high, size) in
      let at_end : same_stream (stream_in s.first) (stream_in s.end) ≡ false = span.next end_high in
      let before : stream_lt (stream_in s.first) (stream_in s.end) ≡ true = elim
      (cases_Bool (stream_lt (stream_in s.first) (stream_in s.end))) [
        | inl is_so ↦ is_so
        | inr not_so ↦ absurd (true≢false
            (sym (streams.are_alike (stream_in s.first) (stream_in s.end) not_so
            (not_before s.first s.end beyond (omega (arith, end_high, size)))) ∙ at_end))
      ] in
      elim (cases_Bool (same_stream (stream_in s.first) (stream_in j))) [
        | inr differ ↦ differ
        | inl same ↦ elim (cases_eq s.end j) [
          | inl is ↦ subst (λ k. same_stream (stream_in s.first) (stream_in k) ≡ false) is at_end
          | inr apart ↦
              let later : s.end < j = omega (arith, low, apart) in
              absurd (true≢false (sym (subst (λ t. stream_lt t (stream_in s.end) ≡ true)
              (streams_same (stream_in s.first) (stream_in j) same) before)
              ∙ not_before s.end j later high))
        ]
      ]

  of_others : (s : Span) → IsSpan known hs s → AreOf (stream_in s.first) false (drop s.end cs)
  of_others s span =
      each_behind (λ c. is_of (stream_in s.first) c ≡ false) cs s.end no_chunk
      (λ k low high. subst (λ t. same_stream (stream_in s.first) t ≡ false) (stream_is k high)
      (differs s span k low high))

  -- each later span begins at or behind this place
  later_spans : (s : Span) → IsSpan known hs s → (at : ℕ) → s.end ≤ at → (ss : List Span) (to : ℕ)
      → to ≡ length hs
      → AreSpans known hs at ss to → Each (λ d. same_stream (stream_in s.first) d.stream ≡ false)
      (map block_of ss)
  later_spans s span at low [] to is all = tt
  later_spans s span at low (d ∷ ss) to is all =
      let first = all.0 in
      let beyond = all.1.beyond in
      let within = all.1.within in (
        differs s span d.first (omega (arith, first, low)) (omega (arith, beyond, within, size)),
        later_spans s span d.end (omega (arith, first, beyond, low)) ss to is all.2,
      )

  pub all_are : (at : ℕ) (ss : List Span) → AreSpans known hs at ss (length hs) → all_chunks
      (map block_of ss) ≡ drop at cs
  all_are at [] all = sym (drop_of_length-le cs (let to = all in omega (arith, to, size)))
  all_are at (s ∷ ss) all =
      let beyond = all.1.beyond in
      let within = all.1.within in
      ap (λ l. between s.first s.end cs ++ l) (all_are s.end ss all.2)
      ∙ (between_drop s.first s.end cs (omega (arith, beyond)) (omega (arith, within, size)) ∙ ap
      (λ n. drop n cs) all.0)

  pub are_blocks : (at : ℕ) (ss : List Span) → AreSpans known hs at ss (length hs) → AreBlocks
      (map block_of ss)
  are_blocks at [] all = tt
  are_blocks at (s ∷ ss) all = (
    of_one s all.1,
    subst (AreOf (stream_in s.first) false) (sym (all_are s.end ss all.2)) (of_others s all.1),
    later_spans s all.1 s.end (omega arith) ss (length hs) refl all.2,
    are_blocks s.end ss all.2,
  )

  -- ---- what a span says of its chunks

  rises : (s : Span) → IsSpan known hs s → BeginsRise (between s.first s.end cs)
  rises s span =
      subst BeginsRise (filter_all (is_of (stream_in s.first)) (between s.first s.end cs)
      (of_one s span))
      (ordered_rise (stream_in s.first) (between s.first s.end cs)
      (ordered_drop s.first (take s.end cs) (ordered_take s.end cs o)))

  pub span_reached : (s : Span) → IsSpan known hs s → s.reached ≡ reached_from s.from
      (between s.first s.end cs)
  span_reached s span =
      span.reached ∙ end_is s.from (between s.first s.end hs) (between s.first s.end cs)
      (heads_between s.first s.end hs cs heads) (rises s span)

  pub has_bytes : Each HasBytes cs → (s : Span) → IsSpan known hs s → Each HasBytes
      (between s.first s.end cs)
  has_bytes all s span =
      let within = span.within in
      each_between HasBytes cs s.first s.end no_chunk (omega (arith, within, size))
      (λ k low high. each_index HasBytes cs all k (omega (arith, within, size, high)) no_chunk)

  pub span_past : Each HasBytes cs → (s : Span) → IsSpan known hs s
      → past (reached_from s.from (between s.first s.end cs)) (between s.first s.end cs)
      ≡ between s.past s.end cs
  span_past all s span =
      let xs = between s.first s.end cs in
      let low = span.low in
      let high = span.high in
      let within = span.within in
      let g = gap_ends s.from xs in
      let a : length (between s.past s.end hs) ≡ length (behind_gap s.from xs) =
      ap length span.past ∙ same_size (pass_past s.from (between s.first s.end hs))
      (behind_gap s.from xs) (past_are s.from (between s.first s.end hs) xs
      (heads_between s.first s.end hs cs heads)) in
      let b : length (between s.past s.end hs) ≡ length (between s.past s.end cs) = same_size
      (between s.past s.end hs) (between s.past s.end cs)
      (heads_between s.past s.end hs cs heads) in
      past_is s.from xs (rises s span) (has_bytes all s span)
      ∙ same_ends g.0 (between s.first s.past cs) (behind_gap s.from xs) (between s.past s.end cs)
      (g.1 ∙ sym (front s.first s.past s.end low high (omega (arith, within, size))))
      (omega (arith, a, b))
    where
      front : (i j k : ℕ) → i ≤ j → j ≤ k → k ≤ length cs → between i j cs ++ between j k cs
          ≡ between i k cs
      front i j k low high room =
          append_cancel_right (between i j cs ++ between j k cs) (between i k cs) (drop k cs)
          (append_assoc (between i j cs) (between j k cs) (drop k cs)
          ∙ (ap (λ l. between i j cs ++ l) (between_drop j k cs high room)
          ∙ (between_drop i j cs low (omega (arith, high, room)) ∙ sym
          (between_drop i k cs (omega (arith, low, high)) room))))
