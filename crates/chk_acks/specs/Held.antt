-- How the table is held.
use Rattle.std.specs.Prelude.{◌≡◌, ◌≤◌, ◌<◌, ◌^◌, length, vec_capacity}
use Rattle.chk_acks.specs.Passes.{places_of}
use Rattle.chk_acks.specs.Table.{Table}
use Rattle.chk_acks.specs.Sound.{IsSound}
use Rattle.chk_acks.specs.declared.table.Acks.TheInside.{Inside}

-- the table that the fields hold
abbrev pub table_of : Inside → Table
table_of a = record {
  rows = a.rows.rows;
  committed = a.committed.items;
  last = a.last.items;
  room = a.rows.room;
}

-- the table is sound, the places of its unmarked rows are listed, the list has its memory, and each
-- adaptor has a number
pub record IsHeld (a : Inside) : Type 0 where
  pub sound : IsSound (table_of a)
  pub places : a.unmarked.items ≡ places_of 0 a.rows.rows
  pub places_fit : a.rows.room ≤ vec_capacity a.unmarked
  pub numbered : length a.committed.items < 2 ^ 32
