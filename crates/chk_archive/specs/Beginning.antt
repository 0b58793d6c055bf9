-- How an archive run begins.
use Rattle.std.specs.Prelude.{◌≡◌, List, ℕ, Result, Ok, Err}
use Rattle.chk_site.specs.declared.acts.OutsideFault.{OutsideFault}
use Rattle.chk_site.specs.History.{History}
use Rattle.chk_world.specs.Names.{ArchiveFolder}
use Rattle.chk_world.specs.Books.{Book}
use Rattle.chk_world.specs.Rules.{Legal}
use Rattle.chk_world.specs.Places.{AtTold}
use Rattle.chk_world.specs.Sight.{job, own_book, AtJob}
use Rattle.chk_record_index.specs.declared.fault.JobFault.{JobFault}
use Rattle.chk_record_index.specs.declared.fault.JobFault.TheVariants.{Damaged}
use Rattle.chk_archive.specs.Tidying.{HasBook}
pub use Rattle.chk_record_reader.specs.Courses.{Begins, starts, only_reads}

-- at Ok the job may act, and the archive has the book that it had; else the history is legal
abbrev pub HasStartedSo : {T : Type 0} → List (List ℕ) → Book → Result T OutsideFault → History
    → Type 0
HasStartedSo stamped loaded (Ok value) history = AtJob stamped (HasBook loaded) history
HasStartedSo stamped loaded (Err fault) history = Legal stamped history

-- at Ok this is the book that the archive had, and it has it still; it is never damaged
abbrev pub HasBegun : List (List ℕ) → Book → Result Book JobFault → History → Type 0
HasBegun stamped loaded (Ok b) history =
    AtJob stamped (λ v. (own_book v ArchiveFolder ≡ loaded) × (b ≡ loaded)) history
HasBegun stamped loaded (Err (Damaged name at)) history = AtTold stamped job (λ h. ⊥) history
HasBegun stamped loaded (Err fault) history = Legal stamped history
