-- Whether a file is there, by one read; and what holds behind reads.
use Rattle.std.proofs.Common.{◌≡◌, ◌∙◌, Bool, true, false, ℕ, List, [], ◌∷◌, ◌++◌, Option, Some}
use Rattle.std.proofs.Common.{None, Ok, Err, inl, inr}
use Rattle.std.proofs.Common.{Result, ap, sym, subst}
use Rattle.std.specs.Prelude.{is_some, option_map}
use Rattle.chk_site.specs.declared.acts.OutsideFault.{OutsideFault}
use Rattle.chk_site.specs.declared.acts.OutsideFault.TheVariants as site
use Rattle.chk_site.specs.Files.{File}
use Rattle.chk_site.specs.Acts.{Deed, deed}
use Rattle.chk_site.specs.History.{History, Step, Every}
use Rattle.chk_site.specs.Site.{Adds, OutsideCause}
use Rattle.chk_site.proofs.Runs.{adds_as, adds_then, every_join}
use Rattle.chk_replace.specs.Load.{bytes_of}
use Rattle.chk_world.specs.JobSteps.{IsOf, ReadsFile}
use Rattle.chk_record_index.specs.Shown.{ShowsPiece}
use Rattle.chk_ctl_cat.proofs.StreamLemmas.{reads_own}
use Rattle.chk_ctl_streams.proofs.Again.{looks_again}
use Rattle.chk_ctl_cat.specs.Looking.{looks, says}
use Rattle.chk_ctl_verify.specs.Calls.{looks_at, quiet as quiet_call, says as said_around}
use Rattle.chk_ctl_verify.specs.Calls.{waits as waits_around}
use Rattle.chk_ctl_verify.specs.Calls.{LooksAround, Looks}
use Rattle.chk_ctl_streams.specs.Following.{looks_once, waits, LooksAgain}
use Rattle.chk_ctl_run.specs.declared.outcome.Outcome.{Outcome}
use Rattle.chk_ctl_run.specs.Outcomes.{told_as, OutcomeCause}
use Rattle.chk_ctl_run.specs.Finding.{found_as, is_there, FoundCause, ShowsMissed}

-- a file of which nothing was read was missed
pub missed_so : (name : List ℕ) (at max : ℕ) (given : Option (List ℕ)) (is : Bool)
    → is ≡ is_some given
    → (added history : History) → ShowsPiece name at max (Ok given) added history
    → ShowsMissed name (Ok is) added history
missed_so name at max None is same added history shown =
    subst (λ (b : Bool). ShowsMissed name (Ok b) added history) (sym same) shown.1
missed_so name at max (Some piece) is same added history shown =
    subst (λ (b : Bool). ShowsMissed name (Ok b) added history) (sym same) tt

-- and one that is there wasn't
pub there_so : (f : List ℕ → List ℕ) (file : Option File) (given : Option (List ℕ)) (is : Bool)
    → is ≡ is_some given
    → given ≡ option_map f (bytes_of file) → is ≡ is_there file
there_so f None given is same read = same ∙ ap is_some read
there_so f (Some file) given is same read = same ∙ ap is_some read

pub found_cause : (given : Result Bool OutsideFault) (before now : ℕ)
    → OutsideCause before now given
    → FoundCause before now (found_as given)
found_cause (Ok true) before now cause = cause
found_cause (Ok false) before now cause = cause
found_cause (Err (site.Outside call)) before now cause = cause
found_cause (Err site.NoMemory) before now cause = cause

-- a file that was looked for in vain
pub sought_cause : (fault : OutsideFault) (before now : ℕ)
    → OutsideCause {T = Bool} before now (Err fault)
    → OutcomeCause before now (told_as (Err fault))
sought_cause (site.Outside call) before now cause = cause
sought_cause site.NoMemory before now cause = cause

-- reads are what one does who looks again, and so is what he does behind them
pub found_own : {old new : Option History} → Adds old new (Every (IsOf ReadsFile))
    → Adds old new (Every (IsOf LooksAgain))
found_own quiet = looks_again (reads_own quiet)

pub found_then : {old mid new : Option History} → Adds old mid (Every (IsOf ReadsFile))
    → Adds mid new (Every (IsOf LooksAgain)) → Adds old new (Every (IsOf LooksAgain))
found_then quiet rest =
    adds_then (Every (IsOf LooksAgain)) (found_own quiet) rest
    (λ a b history p q. every_join (IsOf LooksAgain) b a history p q)

pub cause_then : (outcome : Outcome) (before mid now : ℕ) → mid ≡ before
    → OutcomeCause mid now outcome
    → OutcomeCause before now outcome
cause_then outcome before mid now same cause = subst (λ (n : ℕ). OutcomeCause n now outcome) same
    cause

again_step : (before : History) (step : Step) → IsOf LooksAgain before step → Looks before step
again_step before step (inl theirs) = inl theirs
again_step before step (inr own) =
    inr (
      record { own = own.0.own; running = own.0.running; honest = own.0.honest },
      by_call (deed step.act) own.1,
    )
  where
    by_call : (call : Deed) → LooksAgain call → LooksAround call
    by_call call (looks_once _ (looks _ is)) = quiet_call call (looks_at call is)
    by_call call (looks_once _ (says text)) = said_around text
    by_call call (waits ms) = waits_around ms

again_every : (added history : History) → Every (IsOf LooksAgain) added history
    → Every Looks added history
again_every [] history each = tt
again_every (step ∷ added) history each = (
  again_every added history each.0,
  again_step (added ++ history) step each.1,
)

-- who looks again and again looks around
pub around : {old new : Option History} → Adds old new (Every (IsOf LooksAgain))
    → Adds old new (Every Looks)
around told = adds_as (Every Looks) told (λ added history x. again_every added history x)

pub around_then : {old mid new : Option History} → Adds old mid (Every Looks)
    → Adds mid new (Every (IsOf LooksAgain)) → Adds old new (Every Looks)
around_then first rest =
    adds_then (Every Looks) first (around rest)
    (λ a b history p q. every_join Looks b a history p q)

-- a refusal of the outside
pub err_cause : (T : Type 0) (fault : OutsideFault) (before now : ℕ)
    → OutsideCause {T = T} before now (Err fault) → OutcomeCause before now (told_as (Err fault))
err_cause T (site.Outside call) before now cause = cause
err_cause T site.NoMemory before now cause = cause
