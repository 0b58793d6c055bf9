-- What `verify` shows.
use Rattle.std.specs.Prelude.{◌≡◌, ℕ, Bool, true, false, List, [], ◌∷◌, codes, decimal, Option}
use Rattle.std.specs.Prelude.{Ok, Err}
use Rattle.chk_site.specs.declared.acts.OutsideFault.{OutsideFault}
use Rattle.chk_site.specs.History.{History}
use Rattle.chk_ctl_verify.specs.declared.store.Store.{Store}
use Rattle.chk_ctl_verify.specs.Stores.{StoreChecked}
use Rattle.chk_ctl_streams.specs.Lines.{line_of}
use Rattle.chk_ctl_run.specs.declared.outcome.Outcome.{Outcome}
use Rattle.chk_ctl_run.specs.declared.outcome.Outcome.TheVariants.{Unsound}
use Rattle.chk_ctl_run.specs.Finding.{FindsFile, InStore}
use Rattle.chk_ctl_run.specs.Outcomes.{told_as}
use Rattle.chk_ctl_run.specs.Telling.{Tells}

-- the line of a store whose files are what they have to be: how many records are archived, and
-- how many are split
abbrev pub sound_line : ℕ → ℕ → List ℕ
sound_line archived split =
    line_of (codes "ok" ∷ codes "archive" ∷ decimal archived ∷ codes "demux" ∷ decimal split ∷ [])

-- the same of a store that has no book of records
abbrev pub archive_line : ℕ → List ℕ
archive_line archived =
    line_of (codes "ok" ∷ codes "archive" ∷ decimal archived ∷ codes "demux" ∷ codes "none" ∷ [])

-- by whether the store has a book of records the line is printed
pub data ShowsRest (archived split : ℕ) : Outcome → Option History → Option History → Type 0 where
  unfound : {old new : Option History} (fault : OutsideFault)
      → FindsFile (codes "demux/book") (Err fault) old new
      → ShowsRest archived split (told_as (Err fault)) old new
  no_records : {outcome : Outcome} {old mid new : Option History}
      → FindsFile (codes "demux/book") (Ok false) old mid
      → Tells (archive_line archived) outcome mid new → ShowsRest archived split outcome old new
  records : {outcome : Outcome} {old mid new : Option History}
      → FindsFile (codes "demux/book") (Ok true) old mid
      → Tells (sound_line archived split) outcome mid new
      → ShowsRest archived split outcome old new

-- nothing more is printed where damage was told; else the line is, where there is an archive
abbrev pub ShowsFound : ℕ → ℕ → Bool → Outcome → Option History → Option History → Type 0
ShowsFound archived split true outcome before after =
    (outcome ≡ Unsound) × (after ≡ before)
ShowsFound archived split false outcome before after =
    InStore (ShowsRest archived split) outcome before after

-- Each file is looked at, and the damage of each told; the line is printed where none was. Or a
-- call failed, or there was no memory, and what was printed is the damage told so far.
pub data ShowsVerified : Outcome → Option History → Option History → Type 0 where
  unchecked : {old new : Option History} (fault : OutsideFault)
      → StoreChecked (Err fault) old new → ShowsVerified (told_as (Err fault)) old new
  checked : {outcome : Outcome} {old mid new : Option History} (store : Store)
      → StoreChecked (Ok store) old mid
      → ShowsFound store.archived store.split store.damaged outcome mid new
      → ShowsVerified outcome old new
