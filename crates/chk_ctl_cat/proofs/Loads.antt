-- Damage isn't a call that failed.
use Rattle.std.proofs.Common.{◌≡◌, ℕ, true, Ok, Err, Result}
use Rattle.chk_record_index.specs.Faults.{JobCause}
use Rattle.chk_record_index.specs.declared.fault.JobFault.{JobFault}
use Rattle.chk_record_index.specs.declared.fault.JobFault.TheVariants.{Outside, Damaged, Spent, NoMemory}
use Rattle.chk_book.specs.Loaded.{book_result}
use Rattle.chk_book.specs.declared.book.Book.{Book as Struct}
use Rattle.chk_ctl_cat.specs.Loading.{HasDamage}

pub damage_same : (given : Result Struct JobFault) (before now : ℕ) → HasDamage true (book_result given)
    → JobCause before now given → now ≡ before
damage_same (Ok book) before now has cause = absurd has
damage_same (Err (Outside call)) before now has cause = absurd has
damage_same (Err (Damaged name at)) before now has cause = cause
damage_same (Err (Spent number)) before now has cause = absurd has
damage_same (Err NoMemory) before now has cause = absurd has
