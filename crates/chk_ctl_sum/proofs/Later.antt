-- What holds of a look after another one.
use Rattle.std.proofs.Common.{◌≡◌, ◌∙◌, ℕ, true, List, length, Ok, Err, Result}
use Rattle.std.specs.Prelude.{IfOk}
use Rattle.chk_site.specs.Files.{Files}
use Rattle.chk_site.specs.History.{History}
use Rattle.chk_world.specs.Books.{Book}
use Rattle.chk_record_index.specs.Faults.{JobCause}
use Rattle.chk_record_index.specs.declared.fault.JobFault.{JobFault}
use Rattle.chk_record_index.specs.declared.fault.JobFault.TheVariants.{Outside, Damaged, Spent, NoMemory}
use Rattle.chk_record_reader.specs.Merging.{SoundHeads}
use Rattle.chk_ctl_sum.specs.declared.sums.Sums.{Sums}
use Rattle.chk_ctl_sum.specs.declared.rests.Rest.{Rest}
use Rattle.chk_ctl_sum.specs.Sums.{SummedFrom, HasDamage}

-- a refusal of the heads is one of the digests
pub refused_so : (folder : List ℕ) (b : Book) (held : Files) (rests : List Rest) (fault : JobFault)
    (history : History) → SoundHeads folder b held (Err fault) history
    → SummedFrom folder b rests held (Err fault) history
refused_so folder b held rests (Outside call) history x = tt
refused_so folder b held rests (Damaged name at) history x = x
refused_so folder b held rests (Spent number) history x = tt
refused_so folder b held rests NoMemory history x = tt

-- damage isn't counted as a call that failed
pub damage_same : (given : Result Sums JobFault) (before now : ℕ) → HasDamage true given
    → JobCause before now given → now ≡ before
damage_same (Ok sums) before now has cause = absurd has
damage_same (Err (Outside call)) before now has cause = absurd has
damage_same (Err (Damaged name at)) before now has cause = cause
damage_same (Err (Spent number)) before now has cause = absurd has
damage_same (Err NoMemory) before now has cause = absurd has

-- as many digests as ends
pub counted : (result : Result (List (List ℕ)) JobFault) (n m : ℕ) → n ≡ m
    → IfOk result (λ digests. length digests ≡ n) → IfOk result (λ digests. length digests ≡ m)
counted (Ok digests) n m same is = is ∙ same
counted (Err fault) n m same is = tt
