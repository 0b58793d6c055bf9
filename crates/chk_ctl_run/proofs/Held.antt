-- The outcome of the lines of what waits.
use Rattle.std.proofs.Common.{◌≡◌, ◌∙◌, ℕ, List, [], ◌∷◌, length, Ok, Err, Result, ap}
use Rattle.chk_site.specs.declared.acts.OutsideFault.{OutsideFault}
use Rattle.chk_site.specs.declared.acts.OutsideFault.TheVariants as site
use Rattle.chk_site.specs.Site.{OutsideCause}
use Rattle.chk_record_index.specs.Heads.{Head}
use Rattle.chk_ctl_run.specs.declared.outcome.Outcome.{Outcome}
use Rattle.chk_ctl_run.specs.Outcomes.{OutcomeCause}
use Rattle.chk_ctl_run.specs.Holding.{held_as}

pub held_so : (given : Result (Unit {0}) OutsideFault) (outcome : Outcome) (count : ℕ)
    (heads : List Head) → count ≡ length heads → outcome ≡ held_as count given
    → outcome ≡ held_as (length heads) given
held_so given outcome count heads same is = is ∙ ap (λ (n : ℕ). held_as n given) same

pub held_cause : (heads : List Head) (given : Result (Unit {0}) OutsideFault) (before now : ℕ)
    → OutsideCause before now given → OutcomeCause before now (held_as (length heads) given)
held_cause [] (Ok value) before now cause = cause
held_cause (h ∷ hs) (Ok value) before now cause = cause
held_cause heads (Err (site.Outside call)) before now cause = cause
held_cause heads (Err site.NoMemory) before now cause = cause
