-- What the job knows once it has listed the sinks.
use Rattle.std.specs.Prelude.{◌≡◌, ℕ, List, ◌++◌, map, codes}
use Rattle.chk_site.specs.History.{History}
use Rattle.chk_world.specs.Names.{ArchiveFolder}
use Rattle.chk_world.specs.Books.{Segment, Book}
use Rattle.chk_world.specs.Jobs.{segment_list}
use Rattle.chk_world.specs.Rules.{Legal}
use Rattle.chk_world.specs.Sight.{Sight, sight, own_book}
use Rattle.chk_book.specs.Folders.{segment_name}
use Rattle.chk_archive.specs.FolderNames.{closed_in}
use Rattle.chk_archive.specs.Sinks.{ShowsSinks}

-- in a legal history the job knows this, its last listing showed these names, and the archive has this book
pub record IsListed (stamped : List (List ℕ)) (names : List (List ℕ)) (b : Book) (v : Sight) : Type 0 where
  pub history : History
  pub legal : Legal stamped history
  pub is : sight history ≡ v
  pub shows : ShowsSinks v.own names v
  pub book : own_book v ArchiveFolder ≡ b

-- the file of the aside segment, where the book has one
abbrev pub aside_files : Book → List (List ℕ)
aside_files b = map (λ (g : Segment). segment_name (codes "archive") g.number) (segment_list b.aside)

-- the files that a run reads: the aside segment, where there is one, and then the done sinks in the listing's order
abbrev pub sources_in : Book → List (List ℕ) → List (List ℕ)
sources_in b names = aside_files b ++ closed_in names
