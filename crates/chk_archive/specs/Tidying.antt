-- What the tidying of the archive's folder leaves.
use Rattle.std.specs.Prelude.{◌≡◌, ◌⊎◌, ℕ, List, codes, IsTrue, None, Result, Ok, Err}
use Rattle.chk_bytes.specs.Stems.{is_count}
use Rattle.chk_site.specs.declared.acts.OutsideFault.{OutsideFault}
use Rattle.chk_site.specs.Acts.{Deed, Lists, Removes}
use Rattle.chk_site.specs.History.{History}
use Rattle.chk_site.specs.Honest.{in_folder}
use Rattle.chk_world.specs.Names.{ArchiveFolder, SegmentFile}
use Rattle.chk_world.specs.Books.{Book}
use Rattle.chk_world.specs.Rules.{Legal}
use Rattle.chk_world.specs.Sight.{Sight, own_book, AtJob}
use Rattle.chk_archive.specs.FolderNames.{names_segment, is_stray}

-- the archive has this book
abbrev pub HasBook : Book → Sight → Type 0
HasBook b v = own_book v ArchiveFolder ≡ b

-- the archive has this book, and no segment that the book doesn't name
pub record IsTidy (b : Book) (v : Sight) : Type 0 where
  pub book : own_book v ArchiveFolder ≡ b
  pub strays : (k : ℕ) → IsTrue (is_count k)
      → (v.own (SegmentFile ArchiveFolder k) ≡ None) ⊎ IsTrue (names_segment b k)

-- after another answer than Ok nothing is said but that the history is legal
abbrev pub Tidied : {T : Type 0} → List (List ℕ) → Book → Result T OutsideFault → History → Type 0
Tidied stamped b (Ok value) history = AtJob stamped (IsTidy b) history
Tidied stamped b (Err fault) history = Legal stamped history

-- the calls of the tidying: it lists the folder, and removes segments that the book doesn't name
pub data TidiesBy (b : Book) : Deed → Type 0 where
  lists_archive : TidiesBy b (Lists (codes "archive"))
  removes_stray : (name : List ℕ) → IsTrue (is_stray b name)
      → TidiesBy b (Removes (in_folder (codes "archive") name))
