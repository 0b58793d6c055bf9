-- What the passes take are the parts of the chunks.
use Rattle.std.proofs.Common.{◌≡◌, ℕ, ◌+◌, ◌-◌, ◌≤◌, ◌<◌, Bool, true, false, List, [], ◌∷◌, ◌++◌, length, drop, ap, sym, subst, ◌∙◌, refl, arith, length-drop}
use Rattle.std.specs.Prelude.{map, flat_map, slice_index_or}
use Rattle.std.proofs.lemmas.List.{drop_more, map-append}
use Rattle.chk_chunk.specs.Keys.{Chunk, chunk_end}
use Rattle.chk_world.specs.ArchiveRuns.{in_order}
use Rattle.chk_record_index.specs.Heads.{Head}
use Rattle.chk_record_index.specs.Order.{in_head_order}
use Rattle.chk_archive_plan.specs.HeadsOf.{AreHeads}
use Rattle.chk_archive_plan.specs.Passes.{between, AreSpans}
use Rattle.chk_archive_plan.specs.Plan.{goes_on, part_past, parts_from}
use Rattle.chk_archive_plan.specs.declared.spans.Span.{Span}
use Rattle.chk_archive_plan.specs.declared.spans.Known.{Known}
use Rattle.chk_archive_plan.proofs.Bridges.{between_drop, goes_same, heads_between, same_size}
use Rattle.chk_archive_plan.proofs.Gives.{plans_give}
use Rattle.chk_archive_plan.proofs.HeadOrder.{heads_sort}
use Rattle.chk_archive_parts.specs.declared.cuts.Cut.{Cut}
use Rattle.chk_archive_parts.specs.Cuts.{cuts_from, span_cuts, no_chunk, cut_of, cut_chunk, cut_chunks, CutsAreParts}

abbrev first_of : Chunk → List Chunk → Chunk
first_of c [] = c
first_of c (d ∷ ds) = d

abbrev rest_of : List Chunk → List Chunk
rest_of [] = []
rest_of (d ∷ ds) = ds

-- what stands at a place, and behind it
pub place : (cs : List Chunk) (at : ℕ) (c : Chunk) (rest : List Chunk) → drop at cs ≡ c ∷ rest
    → (slice_index_or cs at no_chunk ≡ c) × (drop (at + 1) cs ≡ rest)
place cs at c rest is =
    let size = length-drop at cs in
    let more = ap length is in
    let low : at < length cs = omega (arith, size, more) in
    let both = sym (drop_more cs at no_chunk low) ∙ is in
    (ap (first_of c) both, ap rest_of both)

of_heads : (cs : List Chunk) (at : ℕ) (hs : List Head) (ds post : List Chunk) (reached : ℕ)
    → drop at cs ≡ ds ++ post → AreHeads hs ds
    → map (cut_chunk cs) (cuts_from at reached hs) ≡ parts_from reached ds
of_heads cs at [] [] post reached is heads = refl
of_heads cs at [] (d ∷ ds) post reached is heads = absurd heads
of_heads cs at (h ∷ hs) [] post reached is heads = absurd heads
of_heads cs at (h ∷ hs) (d ∷ ds) post reached is heads =
    let here = place cs at d (ds ++ post) is in
    subst (λ (b : Bool). map (cut_chunk cs) (elim b as (λ t. List Cut) [
      | true ↦ record { index = at; skip = reached - h.begin } ∷ cuts_from (at + 1) h.key.seq hs
      | false ↦ cuts_from (at + 1) reached hs
    ]) ≡ parts_from reached (d ∷ ds)) (sym (goes_same reached h d heads.0))
    (go (goes_on reached d) here.0
    (of_heads cs (at + 1) hs ds post h.key.seq here.1 heads.1
    ∙ ap (λ k. parts_from k.seq ds) heads.0.key)
    (of_heads cs (at + 1) hs ds post reached here.1 heads.1))
  where
    go : (b : Bool) → slice_index_or cs at no_chunk ≡ d
        → map (cut_chunk cs) (cuts_from (at + 1) h.key.seq hs) ≡ parts_from (chunk_end d) ds
        → map (cut_chunk cs) (cuts_from (at + 1) reached hs) ≡ parts_from reached ds
        → map (cut_chunk cs) (elim b as (λ t. List Cut) [
          | true ↦ record { index = at; skip = reached - h.begin }
              ∷ cuts_from (at + 1) h.key.seq hs
          | false ↦ cuts_from (at + 1) reached hs
        ]) ≡ elim b as (λ t. List Chunk) [
          | true ↦ part_past reached d ∷ parts_from (chunk_end d) ds
          | false ↦ parts_from reached ds
        ]
    go true same on off =
        ap (λ l. cut_of (reached - h.begin) l
        ∷ map (cut_chunk cs) (cuts_from (at + 1) h.key.seq hs)) same
        ∙ (ap (λ n. cut_of (reached - n) d
        ∷ map (cut_chunk cs) (cuts_from (at + 1) h.key.seq hs)) heads.0.begin
        ∙ ap (λ l. part_past reached d ∷ l) on)
    go false same on off = off

of_span : (heads : List Head) (cs : List Chunk) (s : Span) → AreHeads heads cs → s.first ≤ s.end → s.end ≤ length cs
    → cut_chunks cs (span_cuts heads s) ≡ parts_from s.from (between s.first s.end cs)
of_span heads cs s are low within =
    of_heads cs s.first (between s.first s.end heads) (between s.first s.end cs) (drop s.end cs) s.from
    (sym (between_drop s.first s.end cs low within)) (heads_between s.first s.end heads cs are)

-- what the passes take are the parts of the chunks
pub spans_are_parts : (known : List Known) (heads : List Head) (cs : List Chunk) → AreHeads heads cs
    → (at to : ℕ) (spans : List Span) → AreSpans known heads at spans to
    → cut_chunks cs (flat_map (span_cuts heads) spans)
    ≡ flat_map (λ (s : Span). parts_from s.from (between s.first s.end cs)) spans
spans_are_parts known heads cs are at to [] all = refl
spans_are_parts known heads cs are at to (s ∷ ss) all =
    let beyond = all.1.beyond in
    let within = all.1.within in
    let size = same_size heads cs are in
    map-append (cut_chunk cs) (span_cuts heads s) (flat_map (span_cuts heads) ss)
    ∙ (ap (λ l. l ++ cut_chunks cs (flat_map (span_cuts heads) ss))
    (of_span heads cs s are (omega (arith, beyond)) (omega (arith, within, size)))
    ∙ ap (λ l. parts_from s.from (between s.first s.end cs) ++ l)
    (spans_are_parts known heads cs are s.end to ss all.2))

pub cuts_are_parts : CutsAreParts
cuts_are_parts known heads cs spans ends are bytes all begin =
    let sorted = heads_sort heads cs are in
    spans_are_parts known (in_head_order heads) (in_order cs) sorted 0 (length (in_head_order heads)) spans all
    ∙ sym (plans_give known heads cs spans ends are bytes all begin).parts
