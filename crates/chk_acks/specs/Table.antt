-- The table of answers, and what each call makes of it.
use Rattle.std.specs.Prelude.{◌≡◌, ◌⊎◌, ℕ, ◌<◌, List, [], ◌∷◌, ◌++◌, length, map, filter, replicate, slice_index, slice_set, false}
use Rattle.chk_bytes.specs.Stems.{Stem}
use Rattle.chk_acks.specs.declared.row.Row.{Row}
use Rattle.chk_acks.specs.Contiguous.{IsContiguousEnd}
use Rattle.chk_acks.specs.Rows.{IsAcknowledged, is_of_other, is_past, marked_at, rows_of}

-- the rows in use in order of answers, the committed and the last end of each adaptor, and the most
-- rows that there is room for
pub record Table : Type 0 where
  pub rows : List Row
  pub committed : List ℕ
  pub last : List ℕ
  pub room : ℕ

-- the number is one of the table's adaptors
abbrev pub IsKnown : Table → ℕ → Type 0
IsKnown t adaptor = adaptor < length t.committed

-- a table with no row, and each adaptor at offset 0
abbrev pub empty_table : ℕ → ℕ → Table
empty_table room adaptors =
    record { rows = []; committed = replicate adaptors 0; last = replicate adaptors 0; room = room }

-- the adaptor's rows dropped, and both its ends at this offset
abbrev pub begun : ℕ → ℕ → Table → Table
begun adaptor at t = record {
  rows = filter (is_of_other adaptor) t.rows;
  committed = slice_set t.committed adaptor at;
  last = slice_set t.last adaptor at;
  room = t.room;
}

-- a row of the answer to a chunk from one offset to another, still to be marked
abbrev pub answer_row : ℕ → ℕ → ℕ → Stem → ℕ → ℕ → Row
answer_row adaptor begin end stem offset now = record {
  adaptor = adaptor;
  begin = begin;
  end = end;
  stem = stem;
  offset = offset;
  answered = now;
  marked = false;
}

-- one more row, behind the others
abbrev pub added : Row → Table → Table
added row t = record {
  rows = t.rows ++ (row ∷ []);
  committed = t.committed;
  last = slice_set t.last row.adaptor row.end;
  room = t.room;
}

-- each committed end goes on over the marked ones of these rows, as far as they leave no gap
pub record Advances (rows : List Row) (old new : List ℕ) : Type 0 where
  pub as_many : length new ≡ length old
  pub ends : (adaptor : ℕ) → adaptor < length old
      → IsContiguousEnd (IsAcknowledged (rows_of adaptor rows)) (slice_index old adaptor)
      (slice_index new adaptor)

-- the reached rows are marked, the committed ends go on, and the rows below them are dropped
pub record Sees (stem : Stem) (length : ℕ) (old new : Table) : Type 0 where
  pub rows : new.rows ≡ filter (is_past new.committed) (map (marked_at stem length) old.rows)
  pub committed : Advances (map (marked_at stem length) old.rows) old.committed new.committed
  pub last : new.last ≡ old.last
  pub room : new.room ≡ old.room

-- the offset lies in a marked row of the adaptor, or below its committed end: in a row that was
-- dropped since, or below the offset of its `begin`
abbrev pub IsSettled : Table → ℕ → ℕ → Type 0
IsSettled t adaptor offset =
    (offset < slice_index t.committed adaptor) ⊎ IsAcknowledged (rows_of adaptor t.rows) offset
