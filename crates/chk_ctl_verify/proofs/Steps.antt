-- The steps of one who looks around.
use Rattle.std.proofs.Common.{◌≡◌, inl, inr, ℕ, List, [], ◌∷◌, ◌++◌, Option, Ok, Err, Result}
use Rattle.std.proofs.Common.{refl, sym, subst}
use Rattle.std.specs.Prelude.{IfOk, MatchResult}
use Rattle.chk_site.specs.declared.acts.Call.TheVariants.{List as ListNames}
use Rattle.chk_site.specs.declared.acts.ActAnswer.{ActAnswer}
use Rattle.chk_site.specs.declared.acts.CallFault.{CallFault}
use Rattle.chk_site.specs.declared.acts.OutsideFault.{OutsideFault}
use Rattle.chk_site.specs.declared.acts.Who.{Who}
use Rattle.chk_site.specs.declared.acts.Call.TheVariants.{Size}
use Rattle.chk_site.specs.Acts.{deed}
use Rattle.chk_site.specs.History.{Step, History, Every}
use Rattle.chk_site.specs.Once.{TakenOnce}
use Rattle.chk_site.specs.Site.{Adds, asked, answered, sized, names_given, Calls, Ends}
use Rattle.chk_site.proofs.Runs.{adds_as, adds_none, adds_then, every_join}
use Rattle.chk_replace.specs.Load.{asks_at, IsLook}
use Rattle.chk_replace.proofs.CallSteps.{call_each}
use Rattle.chk_world.specs.JobSteps.{asks, IsOf, reads, ReadsFile}
use Rattle.chk_world.specs.Sight.{job}
use Rattle.chk_ctl_verify.specs.Calls.{lists, looks_at, quiet, HasNames, HasSize}
use Rattle.chk_ctl_verify.specs.Calls.{Looks, OnlyLooks, Quiet}

every_as : {P Q : History → Step → Type 0}
    → ((before : History) (step : Step) → P before step → Q before step)
    → (added history : History) → Every P added history → Every Q added history
every_as each [] history all = tt
every_as each (step ∷ added) history all = (
  every_as each added history all.0,
  each (added ++ history) step all.1,
)

all_as : {P Q : History → Step → Type 0} {old new : Option History}
    → ((before : History) (step : Step) → P before step → Q before step)
    → Adds old new (Every P) → Adds old new (Every Q)
all_as {Q = Q} each told = adds_as (Every Q) told (λ added history all. every_as each added
    history all)

quiet_step : (before : History) (step : Step) → Quiet before step → Looks before step
quiet_step before step (inl theirs) = inl theirs
quiet_step before step (inr own) = inr (own.0, quiet (deed step.act) own.1)

read_step : (before : History) (step : Step) → IsOf ReadsFile before step → Quiet before step
read_step before step (inl theirs) = inl theirs
read_step before step (inr own) =
    inr (
      record { own = own.0.own; running = own.0.running; honest = own.0.honest },
      looks_at (deed step.act) own.1,
    )

look_step : (who : Who) (name : List ℕ) (before : History) (step : Step)
    → IsLook who name before step → Quiet before step
look_step who name before step (inl theirs) = inl theirs
look_step who name before step (inr own) =
    inr (
      record { own = own.own; running = own.running; honest = own.honest },
      subst OnlyLooks (sym own.asks) (looks_at _ (reads name own.at (asks_at own.at))),
    )

-- reads of files by the job, and by another process
pub reads_own : {old new : Option History} → Adds old new (Every (IsOf ReadsFile))
    → Adds old new (Every Quiet)
reads_own told = all_as read_step told

pub look_own : (who : Who) (name : List ℕ) {old new : Option History}
    → Adds old new (Every (IsLook who name)) → Adds old new (Every Quiet)
look_own who name told = all_as (look_step who name) told

-- a listing
pub listing_own : (who : Who) (folder : List ℕ) (given : Result ActAnswer CallFault)
    {old new : Option History}
    → Adds old new (Calls (asked who ListNames (folder ∷ []) 0 0) given)
    → Adds old new (Every Quiet)
listing_own who folder given told =
    adds_as (Every Quiet) told
    (λ added history calls.
    call_each Quiet given (λ before step theirs. inl theirs)
    (λ before answer files logs running honest.
    inr (record { own = refl; running = running; honest = honest }, lists folder))
    calls)

-- the question for a length
pub size_own : (who : Who) (name : List ℕ) (result : Result (Option ℕ) OutsideFault)
    {old new : Option History}
    → TakenOnce (asked who Size (name ∷ []) 0 0) sized result old new
    → Adds old new (Every Quiet)
size_own who name result made =
    adds_as (Every Quiet) made.told
    (λ added history calls.
    call_each Quiet (answered sized made.given) (λ before step theirs. inl theirs)
    (λ before answer files logs running honest.
    inr (record { own = refl; running = running; honest = honest }, looks_at _ (asks name)))
    calls)

-- quiet calls among all
pub quiet_own : {old new : Option History} → Adds old new (Every Quiet)
    → Adds old new (Every Looks)
quiet_own told = all_as quiet_step told

pub reads_around : {old new : Option History} → Adds old new (Every (IsOf ReadsFile))
    → Adds old new (Every Looks)
reads_around told = quiet_own (reads_own told)

-- no call, and calls behind others
pub no_call : (now : Option History) → Adds now now (Every Looks)
no_call now = adds_none now (Every Looks) (λ history. tt)

pub then_own : {old mid new : Option History} → Adds old mid (Every Looks)
    → Adds mid new (Every Looks) → Adds old new (Every Looks)
then_own first rest =
    adds_then (Every Looks) first rest (λ a b history p q. every_join Looks b a history p q)

pub no_quiet : (now : Option History) → Adds now now (Every Quiet)
no_quiet now = adds_none now (Every Quiet) (λ history. tt)

pub then_quiet : {old mid new : Option History} → Adds old mid (Every Quiet)
    → Adds mid new (Every Quiet) → Adds old new (Every Quiet)
then_quiet first rest =
    adds_then (Every Quiet) first rest (λ a b history p q. every_join Quiet b a history p q)

-- a listing that was answered
pub names_told : {V : Type 0} (items : V → List (List ℕ)) (who : Who) (folder : List ℕ)
    (given : Result V CallFault) (result : Result V OutsideFault) {old new : Option History}
    → who ≡ job
    → MatchResult result (λ value. given ≡ Ok value) (λ fault. Ends ListNames given fault)
    → Adds old new (Calls (asked who ListNames (folder ∷ []) 0 0)
    (answered (λ v. names_given (items v)) given))
    → IfOk result (λ v. HasNames folder (items v) old new)
names_told {V = V} items who folder given (Ok value) {old = old} {new = new} is came told =
    subst (λ (w : Who). Adds old new (Calls (asked w ListNames (folder ∷ []) 0 0)
    (Ok (names_given (items value))))) is
    (subst (λ (r : Result V CallFault). Adds old new (Calls (asked who ListNames (folder ∷ []) 0 0)
    (answered (λ v. names_given (items v)) r))) came told)
names_told items who folder given (Err fault) is came told = tt

-- a length that was answered
pub size_told : (who : Who) (name : List ℕ) (result : Result (Option ℕ) OutsideFault)
    {old new : Option History} → who ≡ job
    → TakenOnce (asked who Size (name ∷ []) 0 0) sized result old new
    → IfOk result (λ size. HasSize name size old new)
size_told who name (Ok size) {old = old} {new = new} is made =
    subst (λ (w : Who). TakenOnce (asked w Size (name ∷ []) 0 0) sized (Ok size) old new) is made
size_told who name (Err fault) is made = tt
