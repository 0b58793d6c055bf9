-- Rows as they are kept: each names its sink by the number of a place in a list.
use Rattle.std.specs.Prelude.{◌≤◌, ◌<◌, ◌^◌, ℕ, suc, Bool, ◌||◌, List, [], ◌∷◌, length, map, slice_index_or, vec_capacity}
use Rattle.chk_bytes.specs.Stems.{Stem, stem_of}
use Rattle.chk_acks.specs.declared.row.Row.{Row}
use Rattle.chk_acks.specs.declared.kept.Kept.{Kept}
use Rattle.chk_acks.specs.declared.rows.Rows.TheInside.{Inside}
use Rattle.chk_acks.specs.Rows.{is_expired, is_of_other, is_past, is_reached}
use Rattle.chk_acks.specs.Resets.{expired_marked, is_of_kept}
use Rattle.chk_acks.specs.Passes.{moved_end}
use Rattle.chk_acks.specs.Table.{answer_row}

-- the sink at a place
abbrev pub sink_at : List Stem → ℕ → Stem
sink_at sinks place = slice_index_or sinks place (stem_of [] 0 0)

-- the row that a kept one stands for
abbrev pub seen : List Stem → Kept → Row
seen sinks kept = record {
  adaptor = kept.adaptor;
  begin = kept.begin;
  end = kept.end;
  stem = sink_at sinks kept.sink;
  offset = kept.offset;
  answered = kept.answered;
  marked = kept.marked;
}

-- such a row but for its sink
abbrev pub bare : Kept → Row
bare kept = seen [] kept

abbrev pub IsIn : List Stem → Kept → Type 0
IsIn sinks kept = kept.sink < length sinks

-- what rows say of which the sink doesn't count
abbrev pub is_kept_past : List ℕ → Kept → Bool
is_kept_past committed kept = is_past committed (bare kept)

abbrev pub is_kept_other : ℕ → Kept → Bool
is_kept_other adaptor kept = is_of_other adaptor (bare kept)

abbrev pub is_kept_here : List Bool → Kept → Bool
is_kept_here gone kept = is_of_kept gone (bare kept)

abbrev pub is_kept_expired : ℕ → ℕ → Kept → Bool
is_kept_expired now age kept = is_expired now age (bare kept)

abbrev pub kept_moved : List ℕ → Kept → List ℕ
kept_moved committed kept = moved_end committed (bare kept)

abbrev pub kept_expired : ℕ → ℕ → List Bool → Kept → List Bool
kept_expired now age gone kept = expired_marked now age gone (bare kept)

-- the kept row, marked where this sink and length reach it
abbrev pub kept_marked : List Stem → Stem → ℕ → Kept → Kept
kept_marked sinks stem length kept =
    record kept { marked = kept.marked || is_reached stem length (seen sinks kept) }

-- The numbers of the sinks never go down, and each is below the end. The first is at least the one
-- before `next`.
abbrev pub Rises : ℕ → List Kept → ℕ → Type 0
Rises next [] end = Unit {0}
Rises next (kept ∷ more) end = (next ≤ suc kept.sink) × (kept.sink < end) × Rises (suc kept.sink) more end

-- the rows in use, in order of answers, and the most that there is room for
pub record Answers : Type 0 where
  pub rows : List Row
  pub room : ℕ

-- the sink and the offset of the row at a place
abbrev pub named_at : List Row → ℕ → Stem × ℕ
named_at rows place = (
  (slice_index_or rows place (answer_row 0 0 0 (stem_of [] 0 0) 0 0)).stem,
  (slice_index_or rows place (answer_row 0 0 0 (stem_of [] 0 0) 0 0)).offset,
)

abbrev pub answers_of : Inside → Answers
answers_of r = record { rows = map (seen r.sinks.items) r.kept.items; room = r.room }

-- Each row has a sink, in order, there are no more sinks than rows, and both lists have their
-- memory.
pub record IsSoundRows (r : Inside) : Type 0 where
  pub rises : Rises 0 r.kept.items (length r.sinks.items)
  pub few : length r.kept.items ≤ r.room
  pub small : r.room < 2 ^ 32
  pub sinks_few : length r.sinks.items ≤ length r.kept.items
  pub kept_fit : r.room ≤ vec_capacity r.kept
  pub sinks_fit : r.room ≤ vec_capacity r.sinks
