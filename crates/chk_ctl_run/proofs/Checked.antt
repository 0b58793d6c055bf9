-- The outcome of a check, and the calls and the count of faults of each command.
use Rattle.std.proofs.Common.{◌≡◌, ℕ, List, Option, Some, None, Ok, Err, Result, map, refl}
use Rattle.std.proofs.Common.{arith, subst, sym}
use Rattle.std.specs.Borrow.{Bor}
use Rattle.std.specs.List.{list_all}
use Rattle.std.specs.Prelude.{◌&&◌, nat_le, length, IsTrue}
use Rattle.std.proofs.lemmas.Bool.{and_parts}
use Rattle.chk_bytes.specs.Words.{is_word}
use Rattle.chk_site.specs.declared.acts.OutsideFault.{OutsideFault}
use Rattle.chk_site.specs.declared.acts.OutsideFault.TheVariants as site
use Rattle.chk_ctl_check.specs.declared.checking.Checked.{Checked}
use Rattle.chk_ctl_check.specs.declared.checking.Checked.TheVariants as check
use Rattle.chk_ctl_check.specs.Checking.{CheckCause}
use Rattle.chk_ctl_line.specs.Commands.{Asked, Audit, Cat, Check, Streams, Verify, Sum, Held, HeldIn}
use Rattle.chk_ctl_line.specs.Commands.{Help}
use Rattle.chk_ctl_line.specs.Commands.{Passed, Version}
use Rattle.chk_ctl_line.specs.Names.{are_collectors}
use Rattle.chk_ctl_run.specs.declared.outcome.Outcome.{Outcome}
use Rattle.chk_ctl_run.specs.declared.outcome.Outcome.TheVariants.{NoMemory}
use Rattle.chk_ctl_run.specs.Calls.{CauseOfAsked, CauseOfRun}
use Rattle.chk_ctl_run.specs.Checking.{checked_as, CheckedCause}

-- the addresses are words
pub all_words : (xs : List (Bor (List ℕ))) → IsTrue (are_collectors (map (λ a. a.now) xs))
    → IsTrue (list_all is_word (map (λ a. a.now) xs))
all_words xs are =
    let words : List (List ℕ) = map (λ a. a.now) xs in
    let count = length words in
    (and_parts (nat_le 1 count && nat_le count 64) (list_all is_word words) are).1

-- the cause of an outcome is that of the check
pub checked_cause : (given : Result Checked OutsideFault) (before now : ℕ)
    → CheckCause before now given → CheckedCause before now (checked_as given)
checked_cause (Ok check.NoFile) before now cause = cause
checked_cause (Ok check.Fine) before now cause = cause
checked_cause (Ok check.Found) before now cause = cause
checked_cause (Err (site.Outside call)) before now cause = cause
checked_cause (Err site.NoMemory) before now cause = cause

-- where there was no memory no call failed
pub no_cause : (command : Asked) (n : ℕ) → CauseOfAsked command n n NoMemory
no_cause (Audit w) n = refl
no_cause (Cat w) n = refl
no_cause (Check w) n = omega arith
no_cause (Streams store) n = refl
no_cause (Verify store) n = refl
no_cause (Sum store) n = refl
no_cause (Held store) n = refl
no_cause (HeldIn stores) n = refl
no_cause (Passed w) n = refl
no_cause (Help usage) n = refl
no_cause Version n = refl

pub no_cause_of : (command : Option Asked) (n : ℕ) → CauseOfRun command n n NoMemory
no_cause_of None n = refl
no_cause_of (Some command) n = no_cause command n

-- what the outcome of a command says, the words that ask for it do
pub run_cause : (o : Option Asked) (command : Asked) → o ≡ Some command
    → (before now : ℕ) (outcome : Outcome)
    → CauseOfAsked command before now outcome → CauseOfRun o before now outcome
run_cause o command is before now outcome cause =
    subst (λ (a : Option Asked). CauseOfRun a before now outcome) (sym is) cause
