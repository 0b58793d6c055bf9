-- What holds of each table.
use Rattle.std.specs.Prelude.{◌≡◌, ℕ, ◌≤◌, ◌<◌, List, [], ◌∷◌, length, All, slice_index, IsFalse}
use Rattle.chk_acks.specs.declared.row.Row.{Row}
use Rattle.chk_acks.specs.Rows.{rows_of}
use Rattle.chk_acks.specs.Table.{IsKnown, Table}

-- the first row begins at the one offset, each other where the one before it ends, the last ends
-- at the other offset, and each has a byte
abbrev pub AreInTurn : ℕ → List Row → ℕ → Type 0
AreInTurn from [] to = from ≡ to
AreInTurn from (row ∷ rows) to =
    (row.begin ≡ from) × (row.begin < row.end) × AreInTurn row.end rows to

-- the first row is unmarked, if there is one
abbrev pub BeginsUnmarked : List Row → Type 0
BeginsUnmarked [] = Unit {0}
BeginsUnmarked (row ∷ rows) = IsFalse row.marked

-- the rows are of known adaptors and no more than there is room for; those of each adaptor lie in
-- turn from its committed end to its last end, and the first of them is unmarked
pub record IsSound (t : Table) : Type 0 where
  pub known : All (λ row. IsKnown t row.adaptor) t.rows
  pub as_many : length t.last ≡ length t.committed
  pub few : length t.rows ≤ t.room
  pub turn : (adaptor : ℕ) → IsKnown t adaptor
      → AreInTurn (slice_index t.committed adaptor) (rows_of adaptor t.rows)
      (slice_index t.last adaptor)
  pub gap : (adaptor : ℕ) → IsKnown t adaptor → BeginsUnmarked (rows_of adaptor t.rows)
