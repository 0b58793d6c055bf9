-- What is written of each record.
use Rattle.std.specs.Prelude.{◌≡◌, ℕ, ◌+◌, ◌-◌, ◌<◌, true, false, List, [], ◌∷◌, All, length, map, flat_map, drop, slice_index_or}
use Rattle.chk_chunk.specs.Keys.{Stream, Chunk}
use Rattle.chk_world.proofs.Each.{Each}
use Rattle.chk_world.specs.ArchiveRuns.{in_order}
use Rattle.chk_world.specs.TrueBooks.{HasBytes}
use Rattle.chk_record_index.specs.Heads.{Head}
use Rattle.chk_record_index.specs.Order.{no_head, in_head_order}
use Rattle.chk_archive_plan.specs.Passes.{between, head_goes, AreSpans}
use Rattle.chk_archive_plan.specs.Plan.{parts_of}
use Rattle.chk_archive_plan.specs.Laws.{BeginAt}
use Rattle.chk_archive_plan.specs.HeadsOf.{AreHeads}
use Rattle.chk_archive_plan.specs.declared.spans.Span.{Span}
use Rattle.chk_archive_plan.specs.declared.spans.Known.{Known}
use Rattle.chk_archive_parts.specs.declared.cuts.Cut.{Cut}

-- what the pass takes of heads that stand from this place on
abbrev pub cuts_from : ℕ → ℕ → List Head → List Cut
cuts_from at reached [] = []
cuts_from at reached (h ∷ hs) = elim (head_goes reached h) [
  | true ↦ record { index = at; skip = reached - h.begin } ∷ cuts_from (at + 1) h.key.seq hs
  | false ↦ cuts_from (at + 1) reached hs
]

-- what it takes of a span's heads
abbrev pub span_cuts : List Head → Span → List Cut
span_cuts heads s = cuts_from s.first s.from (between s.first s.end heads)

-- a chunk of no record
abbrev pub no_chunk : Chunk
no_chunk = record { key = no_head.key; value = [] }

-- the chunk without its first bytes
abbrev pub cut_of : ℕ → Chunk → Chunk
cut_of skip c = record { key = c.key; value = drop skip c.value }

-- what is written of a record, where these are the chunks of the heads
abbrev pub cut_chunk : List Chunk → Cut → Chunk
cut_chunk cs k = cut_of k.skip (slice_index_or cs k.index no_chunk)

abbrev pub cut_chunks : List Chunk → List Cut → List Chunk
cut_chunks cs cuts = map (cut_chunk cs) cuts

-- each is of one of so many heads
abbrev pub AreWithin : ℕ → List Cut → Type 0
AreWithin count cuts = All (λ (k : Cut). k.index < count) cuts

-- what the passes over the spans of heads in order take are the parts of their chunks, one behind the other
abbrev pub CutsAreParts : Type 0
CutsAreParts =
    (known : List Known) (heads : List Head) (cs : List Chunk) (spans : List Span) (ends : Stream → ℕ)
    → AreHeads heads cs → Each HasBytes cs
    → AreSpans known (in_head_order heads) 0 spans (length (in_head_order heads))
    → BeginAt ends (in_head_order heads) spans
    → cut_chunks (in_order cs) (flat_map (span_cuts (in_head_order heads)) spans) ≡ parts_of ends (in_order cs)
