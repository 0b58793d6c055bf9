-- The calls of a look are those of looks again and again, and so is a wait.
use Rattle.std.proofs.Common.{inl, inr, ℕ, [], ◌∷◌, ◌++◌, Ok, Err, Option, Result, refl}
use Rattle.chk_site.specs.declared.acts.OutsideFault.{OutsideFault}
use Rattle.chk_site.specs.Acts.{deed}
use Rattle.chk_site.specs.History.{Step, History, Every}
use Rattle.chk_site.specs.Runs.{MadeInTurn}
use Rattle.chk_site.specs.Site.{Adds, OutsideCause}
use Rattle.chk_site.proofs.Runs.{adds_as, adds_none}
use Rattle.chk_replace.proofs.CallSteps.{script_each, script_last}
use Rattle.chk_world.specs.JobSteps.{IsOf}
use Rattle.chk_ctl_cat.specs.declared.stream.Came.{Came}
use Rattle.chk_ctl_cat.specs.Faults.{FailsLast, LookCause}
use Rattle.chk_ctl_cat.specs.Looking.{LooksOrSays}
use Rattle.chk_ctl_cat.proofs.SegmentLemmas.{fails_then, caused}
use Rattle.chk_ctl_streams.specs.Following.{after_wait, LooksAgain, looks_once, waits, waiting}

again_step : (before : History) (step : Step) → IsOf LooksOrSays before step
    → IsOf LooksAgain before step
again_step before step (inl theirs) = inl theirs
again_step before step (inr own) = inr (own.0, looks_once (deed step.act) own.1)

again_every : (added history : History) → Every (IsOf LooksOrSays) added history
    → Every (IsOf LooksAgain) added history
again_every [] history each = tt
again_every (step ∷ added) history each = (
  again_every added history each.0,
  again_step (added
      ++ history) step each.1,
)

pub looks_again : {old new : Option History} → Adds old new (Every (IsOf LooksOrSays))
    → Adds old new (Every (IsOf LooksAgain))
looks_again told = adds_as (Every (IsOf LooksAgain)) told
    (λ added history x. again_every added history x)

-- a wait is such a call too
pub waits_again : {given : Result (Unit {0}) OutsideFault} {old new : Option History}
    → MadeInTurn waiting given old new
    → Adds old new (Every (IsOf LooksAgain))
waits_again made =
    script_each (IsOf LooksAgain) (λ before step theirs. inl theirs) (
      λ before answer files logs running honest.
          inr (record { own = refl; running = running; honest = honest; by = refl }, waits 5000),
      tt,
    ) made

-- a wait that failed is the last call
pub waits_last : (came : Came) (given : Result (Unit {0}) OutsideFault)
    {old new : Option History} → MadeInTurn waiting given old new
    → Adds old new (FailsLast (after_wait came given))
waits_last came (Ok value) made = adds_as (FailsLast (after_wait came (Ok value)))
    (script_last made) (λ added history x. tt)
waits_last came (Err fault) {old = old} made =
    fails_then Came (Unit {0}) fault (adds_none old (λ added history. Unit {0}) (λ history. tt))
    (script_last made)

pub waits_cause : (came : Came) (given : Result (Unit {0}) OutsideFault) (before now : ℕ)
    → OutsideCause before now given
    → LookCause before now (after_wait came given)
waits_cause came (Ok value) before now cause = cause
waits_cause came (Err fault) before now cause = caused Came (Unit {0}) fault before before now
    refl cause
