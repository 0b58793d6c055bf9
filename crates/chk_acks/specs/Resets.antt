-- Adaptors that are marked to go back to their committed ends.
use Rattle.std.specs.Prelude.{ℕ, zero, suc, Bool, false, true, not, List, [], ◌∷◌, length, filter, slice_index_or, slice_set, if◌then◌else◌}
use Rattle.chk_acks.specs.declared.row.Row.{Row}
use Rattle.chk_acks.specs.Rows.{is_expired}
use Rattle.chk_acks.specs.Table.{Table}

-- the adaptor is one of the marked
abbrev pub is_gone : List Bool → ℕ → Bool
is_gone gone adaptor = slice_index_or gone adaptor false

-- the row is of an adaptor that isn't marked
abbrev pub is_of_kept : List Bool → Row → Bool
is_of_kept gone row = not (is_gone gone row.adaptor)

-- the marks after a row: an expired one marks its adaptor
abbrev pub expired_marked : ℕ → ℕ → List Bool → Row → List Bool
expired_marked now age gone row =
    if is_expired now age row then slice_set gone row.adaptor true else gone

-- the last ends, of which the first so many are set to the committed ones where they are marked
abbrev pub back_to : ℕ → List Bool → List ℕ → List ℕ → List ℕ
back_to zero gone committed last = last
back_to (suc n) [] committed last = last
back_to (suc n) (gone ∷ marks) [] last = last
back_to (suc n) (gone ∷ marks) (c ∷ committed) [] = []
back_to (suc n) (gone ∷ marks) (c ∷ committed) (o ∷ last) =
    (if gone then c else o) ∷ back_to n marks committed last

abbrev pub ends_back : List Bool → List ℕ → List ℕ → List ℕ
ends_back gone committed last = back_to (length gone) gone committed last

-- the rows of the marked adaptors dropped, and their last ends at their committed ones
abbrev pub without_rows : List Bool → Table → Table
without_rows gone t = record {
  rows = filter (is_of_kept gone) t.rows;
  committed = t.committed;
  last = ends_back gone t.committed t.last;
  room = t.room;
}
