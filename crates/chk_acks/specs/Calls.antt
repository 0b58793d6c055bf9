-- Calls on a table, the newest first, and what they acknowledge.
use Rattle.std.specs.Prelude.{◌≡◌, ℕ, ◌<◌, Bool, ◌&&◌, ◌==◌, List, [], ◌∷◌, length, slice_index, if◌then◌else◌, IsFalse}
use Rattle.std.specs.List.{list_any}
use Rattle.chk_bytes.specs.Stems.{Stem}
use Rattle.chk_acks.specs.declared.row.Row.{Row}
use Rattle.chk_acks.specs.Contiguous.{IsContiguousEnd}
use Rattle.chk_acks.specs.Rows.{IsCovered, is_of, is_reached}
use Rattle.chk_acks.specs.Table.{IsKnown, Sees, Table, added, begun, empty_table}

-- a sink and a length up to which it was seen committed
pub record Sight : Type 0 where
  pub stem : Stem
  pub length : ℕ

-- a call that changes the table
pub data Call : Type 0 where
  Begin : ℕ → ℕ → Call
  Answered : Row → Call
  Seen : Sight → Call

-- the row may be added: one is free, and it goes on with bytes of a known adaptor, unmarked
pub record Continues (row : Row) (t : Table) : Type 0 where
  pub known : IsKnown t row.adaptor
  pub free : length t.rows < t.room
  pub next : row.begin ≡ slice_index t.last row.adaptor
  pub some : row.begin < row.end
  pub unmarked : IsFalse row.marked

-- the call, made as it requires, makes the one table into the other
abbrev pub Makes : Call → Table → Table → Type 0
Makes (Begin adaptor at) old new = IsKnown old adaptor × (new ≡ begun adaptor at old)
Makes (Answered row) old new = Continues row old × (new ≡ added row old)
Makes (Seen sight) old new = Sees sight.stem sight.length old new

-- these calls, made on a new table, lead to this one
abbrev pub LeadsTo : ℕ → ℕ → List Call → Table → Type 0
LeadsTo room adaptors [] t = t ≡ empty_table room adaptors
LeadsTo room adaptors (call ∷ calls) t =
    (old : Table) × LeadsTo room adaptors calls old × Makes call old t

-- the offset of the adaptor's last `begin`, or 0 before the first
abbrev pub began_at : ℕ → List Call → ℕ
began_at adaptor [] = 0
began_at adaptor (Begin owner at ∷ calls) = if owner == adaptor then at else began_at adaptor calls
began_at adaptor (Answered row ∷ calls) = began_at adaptor calls
began_at adaptor (Seen sight ∷ calls) = began_at adaptor calls

-- the row is reached by one of these
abbrev pub is_reached_by : List Sight → Row → Bool
is_reached_by sights row = list_any (λ sight. is_reached sight.stem sight.length row) sights

-- the rows of the adaptor that were answered since its last `begin`, and reached by a later `seen`
-- or by one of the sights
abbrev pub acknowledged : ℕ → List Sight → List Call → List Row
acknowledged adaptor sights [] = []
acknowledged adaptor sights (Begin owner at ∷ calls) =
    if owner == adaptor then [] else acknowledged adaptor sights calls
acknowledged adaptor sights (Answered row ∷ calls) =
    if is_of adaptor row && is_reached_by sights row then row ∷ acknowledged adaptor sights calls
    else acknowledged adaptor sights calls
acknowledged adaptor sights (Seen sight ∷ calls) = acknowledged adaptor (sight ∷ sights) calls

-- after any calls the committed end of each adaptor is the greatest end of at least the offset of
-- its last `begin` for which each offset up to it lies in a row acknowledged since
abbrev pub CommittedIsContiguous : Type 0
CommittedIsContiguous =
    (room adaptors : ℕ) (calls : List Call) (t : Table) (adaptor : ℕ)
    → LeadsTo room adaptors calls t → adaptor < adaptors
    → IsContiguousEnd (IsCovered (acknowledged adaptor [] calls)) (began_at adaptor calls)
    (slice_index t.committed adaptor)
