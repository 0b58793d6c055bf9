-- The calls of a check, by the process that looks, and the count of faults behind them.
use Rattle.std.proofs.Common.{◌≡◌, inl, inr, ℕ, ◌≤◌, List, [], ◌∷◌, ◌++◌, Ok, Err, Option, Result}
use Rattle.std.proofs.Common.{refl, sym, subst, ◌∙◌, arith}
use Rattle.chk_site.specs.declared.acts.ActAnswer.{ActAnswer}
use Rattle.chk_site.specs.declared.acts.CallFault.{CallFault}
use Rattle.chk_site.specs.declared.acts.Who.{Who}
use Rattle.chk_site.specs.declared.acts.CallFault.TheVariants.{Failed, Missing, Exists, Short}
use Rattle.chk_site.specs.declared.acts.CallFault.TheVariants.{NoMemory}
use Rattle.chk_site.specs.declared.acts.OutsideFault.{OutsideFault}
use Rattle.chk_site.specs.declared.acts.OutsideFault.TheVariants.{Outside, NoMemory as no_memory}
use Rattle.chk_site.specs.Acts.{Deed, deed, deed_by}
use Rattle.chk_site.specs.History.{Every, History, Step}
use Rattle.chk_site.specs.Site.{Adds, Asked, Calls, CallsSome, CauseOf, OutsideCause}
use Rattle.chk_site.proofs.Runs.{adds_as, adds_then, every_join}
use Rattle.chk_cmd_output.specs.Printing.{PrintsInTurn}
use Rattle.chk_cmd_output.proofs.Printed.{printings, prints_made}
use Rattle.chk_replace.specs.Load.{IsLook, asks_at}
use Rattle.chk_replace.proofs.CallSteps.{OfEach, call_each, script_each}
use Rattle.chk_world.specs.JobSteps.{IsOf, ReadsFile, reads}
use Rattle.chk_world.specs.Sight.{job}
use Rattle.chk_ctl_check.specs.Checking.{CheckCause}
use Rattle.chk_ctl_check.specs.Collectors.{SendsOrSays, says}

-- a call of a kind, by the job
pub call_own : (K : Deed → Type 0) {q : Asked} (r : Result ActAnswer CallFault)
    {old new : Option History} → q.who ≡ job → K (deed_by q.call q.words q.number q.max)
    → Adds old new (Calls q r) → Adds old new (Every (IsOf K))
call_own K r by kind told =
    adds_as (Every (IsOf K)) told
    (λ added history calls. call_each (IsOf K) r (λ before step theirs. inl theirs)
    (λ before answer files logs running honest.
    inr (record { own = refl; running = running; honest = honest; by = by }, kind)) calls)

-- the same of one whose number isn't known before
pub some_own : (K : Deed → Type 0) (q : ℕ → Asked) (r : ℕ → Result ActAnswer CallFault)
    {old new : Option History} → ((n : ℕ) → (q n).who ≡ job)
    → ((n : ℕ) → K (deed_by (q n).call (q n).words (q n).number (q n).max))
    → Adds old new (CallsSome q r) → Adds old new (Every (IsOf K))
some_own K q r by kind told =
    adds_as (Every (IsOf K)) told
    (λ added history calls. call_each (IsOf K) (r calls.0) (λ before step theirs. inl theirs)
    (λ before answer files logs running honest.
    inr (record { own = refl; running = running; honest = honest; by = by calls.0 }, kind calls.0))
    calls.1)

-- calls of one kind are calls of another one
own_as : (K L : Deed → Type 0) → ((call : Deed) → K call → L call) → (added history : History)
    → Every (IsOf K) added history → Every (IsOf L) added history
own_as K L wider [] history each = tt
own_as K L wider (step ∷ added) history each = (
  own_as K L wider added history each.0,
  elim each.1 [
    | inl theirs ↦ inl theirs
    | inr own ↦ inr (own.0, wider (deed step.act) own.1)
  ],
)

pub own_wider : {K : Deed → Type 0} (L : Deed → Type 0) {old new : Option History}
    → ((call : Deed) → K call → L call) → Adds old new (Every (IsOf K))
    → Adds old new (Every (IsOf L))
own_wider {K = K} L wider told =
    adds_as (Every (IsOf L)) told (λ added history x. own_as K L wider added history x)

-- some calls, and then others of the kind
pub own_then : (K : Deed → Type 0) {old mid new : Option History}
    → Adds old mid (Every (IsOf K)) → Adds mid new (Every (IsOf K)) → Adds old new (Every (IsOf K))
own_then K one two = adds_then (Every (IsOf K)) one two
    (λ a b history p q. every_join (IsOf K) b a history p q)

-- no call takes faults back
pub count_of : (T : Type 0) (before now : ℕ) (r : Result T CallFault) → CauseOf before now r
    → before ≤ now
count_of T before now (Ok value) cause = omega (arith, cause)
count_of T before now (Err Failed) cause = cause.1
count_of T before now (Err Missing) cause = omega (arith, cause)
count_of T before now (Err Exists) cause = omega (arith, cause)
count_of T before now (Err (Short size)) cause = omega (arith, cause)
count_of T before now (Err NoMemory) cause = omega (arith, cause)

-- the count behind a call of a library is that of a check
pub cause_of : (T V : Type 0) (fault : OutsideFault) (before mid now : ℕ) → before ≤ mid
    → OutsideCause {T = V} mid now (Err fault) → CheckCause {T = T} before now (Err fault)
cause_of T V (Outside call) before mid now low cause =
    let rose = cause.0 in
    let more = cause.1 in
    (omega (arith, rose, low), omega (arith, more, low))
cause_of T V no_memory before mid now low cause = omega (arith, low, cause)

-- the same behind another one of a check
pub cause_behind : (T V : Type 0) (fault : OutsideFault) (before mid now : ℕ) → before ≤ mid
    → CheckCause {T = V} mid now (Err fault) → CheckCause {T = T} before now (Err fault)
cause_behind T V (Outside call) before mid now low cause =
    let rose = cause.0 in
    let more = cause.1 in
    (omega (arith, rose, low), omega (arith, more, low))
cause_behind T V no_memory before mid now low cause = omega (arith, low, cause)

-- a count that stays isn't less
pub count_same : {before now : ℕ} → now ≡ before → before ≤ now
count_same same = omega (arith, same)

-- a check goes on behind calls that may have failed
pub cause_after : {T : Type 0} (result : Result T OutsideFault) (before mid now : ℕ)
    → before ≤ mid → CheckCause mid now result → CheckCause before now result
cause_after {T = T} (Ok value) before mid now low cause = omega (arith, low, cause)
cause_after {T = T} (Err fault) before mid now low cause =
    cause_behind T T fault before mid now low cause

-- prints of lines are prints
says_each : (lines : List (List ℕ)) → OfEach (IsOf SendsOrSays) (printings job lines)
says_each [] = tt
says_each (line ∷ lines) = (
  λ before answer files logs running honest.
      inr (record { own = refl; running = running; honest = honest; by = refl }, says line),
  says_each lines,
)

pub prints_own : {who : Who} {lines : List (List ℕ)} {result : Result (Unit {0}) OutsideFault}
    {old new : Option History} → who ≡ job
    → PrintsInTurn who lines result old new → Adds old new (Every (IsOf SendsOrSays))
prints_own {who = who} {lines = lines} {result = result} {old = old} {new = new} is prints =
    script_each (IsOf SendsOrSays) (λ before step theirs. inl theirs) (says_each lines)
    (prints_made (subst (λ (w : Who). PrintsInTurn w lines result old new) is prints))

-- the reads of a load are reads
load_step : (K : Deed → Type 0) → ((call : Deed) → ReadsFile call → K call)
    → (who : Who) (name : List ℕ) → who ≡ job → (before : History) (step : Step)
    → IsLook who name before step → IsOf K before step
load_step K wider who name is before step (inl theirs) = inl theirs
load_step K wider who name is before step (inr read) = inr (
  record { own = read.own; running = read.running; honest = read.honest; by = read.by ∙ is },
  wider (deed step.act)
      (subst ReadsFile (sym read.asks) (reads name read.at (asks_at read.at))),
)

load_steps : (K : Deed → Type 0) → ((call : Deed) → ReadsFile call → K call)
    → (who : Who) (name : List ℕ) → who ≡ job → (added history : History)
    → Every (IsLook who name) added history → Every (IsOf K) added history
load_steps K wider who name is [] history each = tt
load_steps K wider who name is (step ∷ added) history each = (
  load_steps K wider who name is added history each.0,
  load_step K wider who name is (added ++ history) step each.1,
)

pub loads_own : (K : Deed → Type 0) → ((call : Deed) → ReadsFile call → K call) → {who : Who}
    {name : List ℕ} {old new : Option History} → who ≡ job
    → Adds old new (Every (IsLook who name)) → Adds old new (Every (IsOf K))
loads_own K wider {who = who} {name = name} is told =
    adds_as (Every (IsOf K)) told
    (λ added history x. load_steps K wider who name is added history x)
