-- What the spans of heads in order give.
use Rattle.std.proofs.Common.{◌+◌, ◌-◌, ◌<◌, ◌≤◌, Bool, true, false, drop, arith, length-drop, length-append, ◌≡◌, ℕ, List, [], ◌∷◌, ◌++◌, length, ap, sym, ◌∙◌, refl}
use Rattle.std.specs.Prelude.{Contains, map, filter, flat_map, sum_by}
use Rattle.std.proofs.lemmas.List.Sums.{sum_by-cons}
use Rattle.chk_chunk.specs.Keys.{Stream, Chunk, chunk_begin, chunk_end}
use Rattle.chk_world.specs.Books.{values}
use Rattle.chk_world.proofs.Segments.{values_append}
use Rattle.chk_world.specs.ArchiveRuns.{in_order}
use Rattle.chk_world.specs.TrueBooks.{HasBytes}
use Rattle.chk_world.proofs.Each.{Each, each_from, each_at}
use Rattle.chk_record_index.specs.Heads.{Head}
use Rattle.chk_record_index.specs.Order.{in_head_order}
use Rattle.chk_archive_plan.specs.Plan.{goes_on, part_past, parts_from, reached_from, parts_of, ends_of, is_past}
use Rattle.chk_archive_plan.specs.HeadsOf.{AreHeads}
use Rattle.chk_archive_plan.specs.Passes.{between, IsSpan, AreSpans}
use Rattle.chk_archive_plan.specs.Laws.{BeginAt, SpansGive, PlansGive, span_stream, span_gain}
use Rattle.chk_archive_plan.specs.declared.spans.Span.{Span}
use Rattle.chk_archive_plan.specs.declared.spans.Known.{Known}
use Rattle.chk_archive_plan.proofs.ChunkOrder.{Ordered, in_order_ordered}
use Rattle.chk_archive_plan.proofs.HeadOrder.{heads_sort}
use Rattle.chk_archive_plan.proofs.Runs.{all_put}
use Rattle.chk_archive_plan.proofs.Gaps.{past}
use Rattle.chk_archive_plan.proofs.Blocks.{Block, all_chunks, blocks_parts, blocks_past, blocks_ends, past_in}
use Rattle.chk_archive_plan.proofs.SpanBlocks.{block_of, all_are, are_blocks, has_bytes, span_reached, span_past}
use Rattle.chk_archive_plan.proofs.Reaching.{goes}
use Rattle.chk_archive_plan.proofs.Parts.{gain_is}

each_span : (known : List Known) (hs : List Head) (at to : ℕ) (ss : List Span)
    → AreSpans known hs at ss to
    → Each (IsSpan known hs) ss
each_span known hs at to [] all = tt
each_span known hs at to (s ∷ ss) all = (all.1, each_span known hs s.end to ss all.2)

flat_blocks : (block : Span → Block) (f : Block → List Chunk) (g : Span → List Chunk)
    (ss : List Span)
    → Each (λ s. f (block s) ≡ g s) ss → flat_map f (map block ss) ≡ flat_map g ss
flat_blocks block f g [] same = refl
flat_blocks block f g (s ∷ ss) same =
    ap (λ l. l ++ flat_map f (map block ss)) same.0 ∙ ap (λ l. g s ++ l)
    (flat_blocks block f g ss same.1)

-- what a pass takes is how far it goes
pub gain_from : (reached : ℕ) (cs : List Chunk) → Each HasBytes cs
    → length (values (parts_from reached cs)) + reached ≡ reached_from reached cs
gain_from reached [] all = omega arith
gain_from reached (c ∷ cs) all = go (goes_on reached c) refl (gain_from (chunk_end c) cs all.1)
    (gain_from reached cs all.1)
  where
    go : (b : Bool) → goes_on reached c ≡ b
        → length (values (parts_from (chunk_end c) cs)) + chunk_end c ≡ reached_from
        (chunk_end c) cs
        → length (values (parts_from reached cs)) + reached ≡ reached_from reached cs
        → length (values (elim b as (λ t. List Chunk) [
          | true ↦ part_past reached c ∷ parts_from
              (chunk_end c) cs
          | false ↦ parts_from reached cs
        ])) + reached
        ≡ elim b as (λ t. ℕ) [
          | true ↦ reached_from
              (chunk_end c) cs
          | false ↦ reached_from reached cs
        ]
    go true e on off =
        let h = goes reached c e in
        let size = length-drop (reached - chunk_begin c) c.value in
        let whole = length-append (drop (reached - chunk_begin c) c.value)
        (values (parts_from (chunk_end c) cs)) in
        let room = all.0.room in
        let low : chunk_begin c ≤ reached = h.0 in
        let high : reached < chunk_end c = h.1 in
        omega (arith, size, whole, room, low, high, on)
    go false e on off = off

gains : (f : Span → List Chunk) (g : Span → ℕ) (ss : List Span) → Each
    (λ s. length (values (f s)) ≡ g s) ss
    → length (values (flat_map f ss)) ≡ sum_by g ss
gains f g [] same = refl
gains f g (s ∷ ss) same =
    let rest = gains f g ss same.1 in
    let here = same.0 in
    let parts = ap length (values_append (f s) (flat_map f ss)) in
    let size = length-append (values (f s)) (values (flat_map f ss)) in
    let whole = sum_by-cons g s ss in
    omega (arith, rest, here, parts, size, whole)

each_block : (block : Span → Block) (P : Block → Type 0) (ss : List Span) → Each P (map block ss)
    → Each (λ s. P (block s)) ss
each_block block P [] all = tt
each_block block P (s ∷ ss) all = (all.0, each_block block P ss all.1)

module _ (known : List Known) (hs : List Head) (cs : List Chunk) (heads : AreHeads hs cs)
    (o : Ordered cs)
    (bytes : Each HasBytes cs) (spans : List Span) (all : AreSpans known hs 0 spans (length hs))
    (ends : Stream → ℕ) (begin : BeginAt ends hs spans) where
  abbrev block : Span → Block
  block = block_of known hs cs heads o

  are : all_chunks (map block spans) ≡ cs
  are = all_are known hs cs heads o 0 spans all

  of_span : (P : Span → Type 0) → ((s : Span) → Contains spans s → IsSpan known hs s → P s)
      → Each P spans
  of_span P h =
      each_from P spans (λ s one. h s one
      (each_at (IsSpan known hs) spans s (each_span known hs 0 (length hs) spans all) one))

  parts_are : parts_of ends cs ≡ flat_map
      (λ (s : Span). parts_from s.from (between s.first s.end cs)) spans
  parts_are =
      ap (parts_of ends) (sym are)
      ∙ (blocks_parts ends (map block spans) (are_blocks known hs cs heads o 0 spans all)
      ∙ flat_blocks block (λ b. parts_from (ends b.stream) b.chunks)
      (λ s. parts_from s.from (between s.first s.end cs)) spans
      (of_span (λ s. parts_from (ends (span_stream hs s)) (between s.first s.end cs)
      ≡ parts_from s.from (between s.first s.end cs))
      (λ s one span. ap (λ n. parts_from n (between s.first s.end cs)) (sym (begin s one)))))

  pub spans_give : SpansGive ends hs cs spans
  spans_give = record {
    gain =
        gain_is ends cs bytes
        ∙ (ap (λ l. length (values l)) parts_are
        ∙ gains (λ (s : Span). parts_from s.from (between s.first s.end cs)) span_gain spans
        (of_span (λ s. length (values (parts_from s.from (between s.first s.end cs))) ≡ span_gain s)
        (λ s one span.
        let e = gain_from s.from (between s.first s.end cs)
        (has_bytes known hs cs heads o bytes s span) in
        let r = span_reached known hs cs heads o s span in
        omega (arith, e, r))));
    parts = parts_are;
    past =
        ap (λ l. filter (is_past (ends_of ends l)) l) (sym are)
        ∙ (blocks_past ends (map block spans) (are_blocks known hs cs heads o 0 spans all)
        ∙ flat_blocks block (past_in ends) (λ s. between s.past s.end cs) spans
        (of_span (λ s. past_in ends (block s) ≡ between s.past s.end cs)
        (λ s one span. ap (λ n. past (reached_from n (between s.first s.end cs))
        (between s.first s.end cs)) (sym (begin s one))
        ∙ span_past known hs cs heads o bytes s span)));
    reached = λ s one.
        let span = each_at (IsSpan known hs) spans s
        (each_span known hs 0 (length hs) spans all) one in
        ap (λ l. ends_of ends l (span_stream hs s)) (sym are)
        ∙ (each_at (λ s. ends_of ends (all_chunks (map block spans)) (span_stream hs s)
        ≡ reached_from (ends (span_stream hs s)) (between s.first s.end cs)) spans s
        (each_block block (λ b. ends_of ends (all_chunks (map block spans)) b.stream ≡ reached_from
        (ends b.stream) b.chunks) spans
        (blocks_ends ends (map block spans) (are_blocks known hs cs heads o 0 spans all))) one
        ∙ (ap (λ n. reached_from n (between s.first s.end cs)) (sym (begin s one)) ∙ sym
        (span_reached known hs cs heads o s span)));
  }

-- of heads and chunks as they were found
pub plans_give : PlansGive
plans_give known heads cs spans ends are bytes all begin =
    spans_give known (in_head_order heads) (in_order cs) (heads_sort heads cs are)
    (in_order_ordered cs)
    (each_from HasBytes (in_order cs) (λ c one. each_at HasBytes cs c bytes
    (all_put cs c one))) spans all ends begin
