-- How a join begins.
use Rattle.std.specs.Prelude.{◌≡◌, List, ℕ, Result, Ok, Err}
use Rattle.chk_site.specs.declared.acts.OutsideFault.{OutsideFault}
use Rattle.chk_site.specs.Acts.{Deed, Starts}
use Rattle.chk_site.specs.History.{History}
use Rattle.chk_world.specs.Names.{JoinedFolder}
use Rattle.chk_world.specs.Books.{Book}
use Rattle.chk_world.specs.Rules.{Legal}
use Rattle.chk_world.specs.Places.{AtTold}
use Rattle.chk_world.specs.Sight.{job, Sight, own_book, AtJob}
use Rattle.chk_world.specs.JobSteps.{ReadsFile}
use Rattle.chk_record_index.specs.declared.fault.JobFault.{JobFault}
use Rattle.chk_record_index.specs.declared.fault.JobFault.TheVariants.{Damaged}

-- `joined` has this book
abbrev pub HasBook : Book → Sight → Type 0
HasBook b v = own_book v JoinedFolder ≡ b

-- at Ok the job may act; else the history is legal
abbrev pub HasStarted : {T : Type 0} → List (List ℕ) → Result T OutsideFault → History → Type 0
HasStarted stamped (Ok value) history = AtJob stamped (λ v. Unit {0}) history
HasStarted stamped (Err fault) history = Legal stamped history

-- at Ok `joined` has this book; its book is never damaged
abbrev pub HasBegun : List (List ℕ) → Result Book JobFault → History → Type 0
HasBegun stamped (Ok b) history = AtJob stamped (HasBook b) history
HasBegun stamped (Err (Damaged name at)) history = AtTold stamped job (λ h. ⊥) history
HasBegun stamped (Err fault) history = Legal stamped history

-- the calls: it starts, and reads
pub data Begins : Deed → Type 0 where
  begins_starting : Begins Starts
  begins_reading : (call : Deed) → ReadsFile call → Begins call
