-- How one who only looks reads the book of a folder.
use Rattle.std.specs.Prelude.{List, ℕ, Bool, true, false, Option, Result, Err}
use Rattle.chk_site.specs.Files.{File}
use Rattle.chk_site.specs.Effect.{IsSmallFile}
use Rattle.chk_site.specs.History.{History, Every}
use Rattle.chk_site.specs.Site.{Adds}
use Rattle.chk_site.specs.Runs.{anyhow, Leads}
use Rattle.chk_replace.specs.Load.{Has}
use Rattle.chk_world.specs.Books.{Book}
use Rattle.chk_world.specs.JobSteps.{IsOf, ReadsFile, SparesFile}
use Rattle.chk_record_index.specs.declared.fault.JobFault.{JobFault}
use Rattle.chk_record_index.specs.declared.fault.JobFault.TheVariants.{Damaged}
use Rattle.chk_book.specs.Folders.{book_name}
use Rattle.chk_book.specs.Loaded.{LoadedBook, ShowsBook}

-- Nothing is done but reads. They show that the folder's book is this one, or why there is none; where others leave its file
-- meanwhile, it is the file's.
pub record BookRead (folder : List ℕ) (given : Result Book JobFault) (before after : Option History) : Type 0 where
  pub quiet : Adds before after (Every (IsOf ReadsFile))
  pub shown : Adds before after (ShowsBook folder given)
  pub loaded : (file : Option File) → IsSmallFile file
      → Adds before after (Leads (anyhow (SparesFile (book_name folder)))
      (Has (book_name folder) file) (LoadedBook folder file given))

-- whether damage was found
abbrev pub HasDamage : {T : Type 0} → Bool → Result T JobFault → Type 0
HasDamage true (Err (Damaged name at)) = Unit {0}
HasDamage true result = ⊥
HasDamage false (Err (Damaged name at)) = ⊥
HasDamage false result = Unit {0}

-- the book is read once; or once more, where it was found damaged
pub data BookFound (folder : List ℕ) (given : Result Book JobFault) : Option History → Option History → Type 0 where
  once : {old new : Option History} → HasDamage false given → BookRead folder given old new → BookFound folder given old new
  again : {bad : Result Book JobFault} {old mid new : Option History} → HasDamage true bad
      → BookRead folder bad old mid → BookRead folder given mid new → BookFound folder given old new
