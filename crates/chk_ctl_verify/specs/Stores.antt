-- All files of a store, one folder after the other.
use Rattle.std.specs.Prelude.{◌||◌, Bool, codes, Option, Result, Ok, Err}
use Rattle.chk_site.specs.declared.acts.OutsideFault.{OutsideFault}
use Rattle.chk_site.specs.History.{History}
use Rattle.chk_ctl_verify.specs.declared.books.Folder.{Folder}
use Rattle.chk_ctl_verify.specs.declared.sinks.Place.TheVariants.{Agents, Sinks, Wahead}
use Rattle.chk_ctl_verify.specs.declared.store.Store.{Store}
use Rattle.chk_ctl_verify.specs.Books.{BookChecked}
use Rattle.chk_ctl_verify.specs.Walks.{PlaceChecked}

-- one thing and then another, whose values are joined; or the refusal of the first one or of the
-- second one
pub data InTurn {A B C : Type 0} (join : A → B → C)
    (First : Result A OutsideFault → Option History → Option History → Type 0)
    (Then : Result B OutsideFault → Option History → Option History → Type 0)
    : Result C OutsideFault → Option History → Option History → Type 0 where
  both : {a : A} {b : B} {old mid new : Option History} → First (Ok a) old mid
      → Then (Ok b) mid new → InTurn join First Then (Ok (join a b)) old new
  only_first : {a : A} {fault : OutsideFault} {old mid new : Option History} → First (Ok a) old mid
      → Then (Err fault) mid new → InTurn join First Then (Err fault) old new
  not_first : {fault : OutsideFault} {old new : Option History} → First (Err fault) old new
      → InTurn join First Then (Err fault) old new

abbrev pub either : Bool → Bool → Bool
either a b = a || b

-- the sinks and the buffers
abbrev pub SinksChecked : Result Bool OutsideFault → Option History → Option History → Type 0
SinksChecked = InTurn either (PlaceChecked Sinks) (PlaceChecked Wahead)

-- the joined archive before
abbrev pub or_damaged : Folder → Bool → Bool
or_damaged folder is = folder.damaged || is

abbrev pub RestChecked : Result Bool OutsideFault → Option History → Option History → Type 0
RestChecked = InTurn or_damaged (BookChecked (codes "joined")) SinksChecked

-- the split records before
abbrev pub with_rest : Folder → Bool → Folder
with_rest folder is = record folder { damaged = folder.damaged || is }

abbrev pub RecordsChecked : Result Folder OutsideFault → Option History → Option History → Type 0
RecordsChecked = InTurn with_rest (BookChecked (codes "demux")) RestChecked

-- the archive before
abbrev pub store_of : Folder → Folder → Store
store_of archive behind = record {
  archived = archive.records;
  split = behind.records;
  damaged = archive.damaged || behind.damaged;
}

abbrev pub BooksChecked : Result Store OutsideFault → Option History → Option History → Type 0
BooksChecked = InTurn store_of (BookChecked (codes "archive")) RecordsChecked

-- each file in turn: the checkpoints before
abbrev pub with_checks : Bool → Store → Store
with_checks is store = record store { damaged = is || store.damaged }

abbrev pub StoreChecked : Result Store OutsideFault → Option History → Option History → Type 0
StoreChecked = InTurn with_checks (PlaceChecked Agents) BooksChecked
