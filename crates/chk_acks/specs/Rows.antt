-- Rows of the table, what marks them and what they cover.
use Rattle.std.specs.Prelude.{ℕ, ◌+◌, ◌≤◌, ◌<◌, Bool, ◌&&◌, ◌||◌, not, ◌==◌, nat_le, nat_lt, List, Any, filter, map, IsTrue, Option, option_map, slice_get, slice_index}
use Rattle.chk_bytes.specs.Stems.{Stem, same_stem}
use Rattle.chk_acks.specs.declared.row.Row.{Row}

-- the row is one of the adaptor
abbrev pub is_of : ℕ → Row → Bool
is_of adaptor row = row.adaptor == adaptor

-- the row is one of another adaptor
abbrev pub is_of_other : ℕ → Row → Bool
is_of_other adaptor row = not (is_of adaptor row)

-- the rows of the adaptor
abbrev pub rows_of : ℕ → List Row → List Row
rows_of adaptor rows = filter (is_of adaptor) rows

-- the row is still to be marked
abbrev pub is_unmarked : Row → Bool
is_unmarked row = not row.marked

-- the row's offset is at or below the length, and its sink is this one
abbrev pub is_reached : Stem → ℕ → Row → Bool
is_reached stem length row = nat_le row.offset length && same_stem row.stem stem

-- the row, marked where this sink and length reach it
abbrev pub marked_at : Stem → ℕ → Row → Row
marked_at stem length row = record row { marked = row.marked || is_reached stem length row }

-- the row ends past the committed end of its adaptor
abbrev pub is_past : List ℕ → Row → Bool
is_past committed row = nat_lt (slice_index committed row.adaptor) row.end

-- the row is unmarked, and was answered at least `age` before `now`
abbrev pub is_expired : ℕ → ℕ → Row → Bool
is_expired now age row = is_unmarked row && nat_le (row.answered + age) now

-- the offset lies in the row
abbrev pub Covers : ℕ → Row → Type 0
Covers offset row = (row.begin ≤ offset) × (offset < row.end)

-- the offset lies in one of these rows
abbrev pub IsCovered : List Row → ℕ → Type 0
IsCovered rows offset = Any (Covers offset) rows

-- the offset lies in a marked one of these rows
abbrev pub IsAcknowledged : List Row → ℕ → Type 0
IsAcknowledged rows offset = Any (λ row. IsTrue row.marked × Covers offset row) rows

-- the offset lies in a row that this sink and length reach
abbrev pub IsReached : Stem → ℕ → List Row → ℕ → Type 0
IsReached stem length rows offset =
    Any (λ row. IsTrue (is_reached stem length row) × Covers offset row) rows

-- the adaptors of the expired rows
abbrev pub expired_adaptors : ℕ → ℕ → List Row → List ℕ
expired_adaptors now age rows = map (λ row. row.adaptor) (filter (is_expired now age) rows)

-- the sink and the offset of the unmarked row after so many unmarked ones
abbrev pub waiting_after : ℕ → List Row → Option (Stem × ℕ)
waiting_after skip rows =
    option_map (λ row. (row.stem, row.offset)) (slice_get (filter is_unmarked rows) skip)
