-- What holds of a look after another one.
use Rattle.std.proofs.Common.{◌≡◌, ◌+◌, ◌≤◌, ℕ, true, List, Option, Ok, Err, Result, sym, subst}
use Rattle.std.proofs.Common.{arith}
use Rattle.chk_site.specs.Files.{Files}
use Rattle.chk_site.specs.History.{History}
use Rattle.chk_world.specs.Books.{Book}
use Rattle.chk_record_index.specs.Faults.{JobCause}
use Rattle.chk_record_index.specs.declared.fault.JobFault.{JobFault}
use Rattle.chk_record_index.specs.declared.fault.JobFault.TheVariants.{Outside, Damaged, Spent, NoMemory}
use Rattle.chk_ctl_cat.specs.Loading.{HasDamage}
use Rattle.chk_record_reader.specs.Merging.{SoundHeads}
use Rattle.chk_ctl_verify_archive.specs.Verifying.{LooksOn, SoundFiles, Verified, VerifiedBy, no_more}
use Rattle.chk_ctl_verify_archive.specs.Verifying.{settled, twice}

-- a refusal of the heads is one of the count
pub refused_so : (folder : List ℕ) (b : Book) (held : Files) (fault : JobFault) (history : History)
    → SoundHeads folder b held (Err fault) history → SoundFiles folder b held (Err fault) history
refused_so folder b held (Outside call) history x = tt
refused_so folder b held (Damaged name at) history x = x
refused_so folder b held (Spent number) history x = tt
refused_so folder b held NoMemory history x = tt

-- damage isn't counted as a call that failed
pub damage_same : (given : Result ℕ JobFault) (before now : ℕ) → HasDamage true given
    → JobCause before now given → now ≡ before
damage_same (Ok count) before now has cause = absurd has
damage_same (Err (Outside call)) before now has cause = absurd has
damage_same (Err (Damaged name at)) before now has cause = cause
damage_same (Err (Spent number)) before now has cause = absurd has
damage_same (Err NoMemory) before now has cause = absurd has

module _ (folder : List ℕ) (looks : ℕ) {old : Option History} where
  -- no look is left
  pub none_left : (result : Result ℕ JobFault) {new : Option History}
      → LooksOn folder looks result old new
      → VerifiedBy folder looks result old new
  none_left (Ok count) so = settled looks (omega arith) so tt
  none_left (Err (Outside call)) so = settled looks (omega arith) so tt
  none_left (Err (Damaged name at)) so = no_more so tt
  none_left (Err (Spent number)) so = settled looks (omega arith) so tt
  none_left (Err NoMemory) so = settled looks (omega arith) so tt

  -- two looks in turn find the same damage
  pub found_twice : (more : ℕ) (before result : Result ℕ JobFault) {mid new : Option History}
      → more + 1 ≤ looks
      → result ≡ before → LooksOn folder more before old mid → HasDamage true before
      → Verified folder result mid new
      → VerifiedBy folder looks result old new
  found_twice more before result {mid = mid} low same so has again =
      twice more low (subst (λ r. LooksOn folder more r old mid) (sym same) so)
      (subst (HasDamage true) (sym same) has) again
