-- Whether a folder's book and segments are as they have to be.
use Rattle.std.specs.Prelude.{◌≡◌, ◌+◌, ◌≤◌, ℕ, Bool, true, false, List, length, Option, Result}
use Rattle.std.specs.Prelude.{Ok, Err}
use Rattle.chk_site.specs.Files.{Files}
use Rattle.chk_site.specs.History.{History, Every}
use Rattle.chk_site.specs.Site.{Adds}
use Rattle.chk_site.specs.Runs.{anyhow, Leads}
use Rattle.chk_chunk.specs.Keys.{Stream}
use Rattle.chk_world.specs.Books.{Book}
use Rattle.chk_world.specs.JobSteps.{IsOf, ReadsFile}
use Rattle.chk_world.proofs.Each.{Each}
use Rattle.chk_record_index.specs.Heads.{Head}
use Rattle.chk_record_index.specs.Order.{in_head_order}
use Rattle.chk_record_index.specs.declared.fault.JobFault.{JobFault}
use Rattle.chk_record_index.specs.declared.fault.JobFault.TheVariants.{Damaged}
use Rattle.chk_book.specs.Folders.{most_in}
use Rattle.chk_ctl_cat.specs.Loading.{BookFound, HasDamage}
use Rattle.chk_record_reader.specs.Segments.{names_of, HasFiles, SparesFiles, AreSettled, IsSound}
use Rattle.chk_record_reader.specs.Segments.{heads_from}
use Rattle.chk_record_reader.specs.Archives.{IsDamagedAt}
use Rattle.chk_record_reader.specs.Checking.{AllGoWell}

-- the heads of all records that the book names
abbrev pub all_heads : List ℕ → Book → Files → List Head
all_heads folder b held = heads_from (most_in folder) held 0 (names_of folder b)

-- At Ok the files are as they were, each is of chunks, and each stream's records go on from its
-- start to its end in the book; these are so many. Damage is of some stream: a segment isn't of
-- chunks, a record doesn't go on, or an end isn't reached.
abbrev pub SoundFiles : List ℕ → Book → Files → Result ℕ JobFault → History → Type 0
SoundFiles folder b held (Ok count) history =
    HasFiles (names_of folder b) held history × Each (IsSound (most_in folder) held)
    (names_of folder b)
    × AllGoWell b.ends (all_heads folder b held) × (count ≡ length (in_head_order (all_heads
    folder b held)))
SoundFiles folder b held (Err (Damaged name at)) history = (s : Stream)
    × IsDamagedAt folder b held s name at
SoundFiles folder b held (Err fault) history = Unit {0}

-- the same, where the files that the book names are wholly on the disk, and others leave them
abbrev pub SoundBook : List ℕ → Book → Result ℕ JobFault → Option History → Option History → Type 0
SoundBook folder b result before after =
    (held : Files) → AreSettled (names_of folder b) held
    → Adds before after (Leads (anyhow (SparesFiles (names_of folder b)))
    (HasFiles (names_of folder b) held) (SoundFiles folder b held result))

-- what follows a read of the book
abbrev pub Found : List ℕ → Result Book JobFault → Result ℕ JobFault → Option History
    → Option History → Type 0
Found folder (Ok b) result before after = SoundBook folder b result before after
Found folder (Err fault) result before after = (after ≡ before) × (result ≡ Err fault)

-- The folder's book is read, and then its segments are looked at; or the book can't be read.
-- Nothing is done but reads.
pub record Verified (folder : List ℕ) (result : Result ℕ JobFault)
    (before after : Option History) : Type 0 where
  pub quiet : Adds before after (Every (IsOf ReadsFile))
  pub given : Result Book JobFault
  pub middle : Option History
  pub read : BookFound folder given before middle
  pub found : Found folder given result middle after

-- whether the same was found as before
abbrev pub IsSame : Bool → Result ℕ JobFault → Result ℕ JobFault → Type 0
IsSame true before result = result ≡ before
IsSame false before result = result ≡ before → ⊥

-- One look, and so many more, one after the other. Each but the last one found damage, and not
-- that of the look before.
pub data LooksOn (folder : List ℕ) : ℕ → Result ℕ JobFault → Option History → Option History
    → Type 0 where
  first : {result : Result ℕ JobFault} {old new : Option History} → Verified folder result old new
      → LooksOn folder 0 result old new
  next : {more : ℕ} {before result : Result ℕ JobFault} {old mid new : Option History}
      → LooksOn folder more before old mid
      → HasDamage true before → Verified folder result mid new → IsSame false before result
      → LooksOn folder (more + 1) result old new

-- The same, of at most so many looks more. Damage is told where two looks in turn find the same,
-- or where no look is left.
pub data VerifiedBy (folder : List ℕ) (looks : ℕ) (result : Result ℕ JobFault) : Option History
    → Option History → Type 0 where
  settled : (more : ℕ) {old new : Option History} → more ≤ looks
      → LooksOn folder more result old new
      → HasDamage false result → VerifiedBy folder looks result old new
  twice : (more : ℕ) {old mid new : Option History} → more + 1 ≤ looks
      → LooksOn folder more result old mid
      → HasDamage true result → Verified folder result mid new
      → VerifiedBy folder looks result old new
  no_more : {old new : Option History} → LooksOn folder looks result old new
      → HasDamage true result
      → VerifiedBy folder looks result old new
