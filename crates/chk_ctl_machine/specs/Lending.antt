-- A site of the current folder is lent and given back.
use Rattle.std.specs.Prelude.{◌≡◌, ℕ, List, Option, Result, Ok, Err}
use Rattle.chk_site.specs.History.{History}
use Rattle.chk_ctl_run.specs.declared.outcome.Outcome.{Outcome}
use Rattle.chk_ctl_run.specs.Outcomes.{OutcomeCause}
use Rattle.chk_ctl_machine.specs.declared.extent.LongInspection.{LongInspection}
use Rattle.chk_ctl_machine.specs.Deeds.{after, Lends, TakesBack, Told}

-- in between P came of its history, and of the count of its faults
pub record Lent (long : Option LongInspection)
    (P : Option History → ℕ → Option History → ℕ → Type 0) (old new : Told) : Type 0 where
  pub from : Option History
  pub before : ℕ
  pub to : Option History
  pub now : ℕ
  pub is : new ≡ after (TakesBack to now) (after (Lends long from before) old)
  pub did : P from before to now

-- only a call of the outside that failed raises the count
abbrev pub SeenCause : {T : Type 0} → ℕ → ℕ → Result T Outcome → Type 0
SeenCause before now (Ok value) = now ≡ before
SeenCause before now (Err outcome) = OutcomeCause before now outcome

-- the list of what was found, or the outcome
abbrev pub listed : {V A : Type 0} → Result V Outcome → (V → List A) → Result (List A) Outcome
listed (Ok value) items = Ok (items value)
listed (Err outcome) items = Err outcome
