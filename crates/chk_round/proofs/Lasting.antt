-- The call that failed, as the last one of a round.
use Rattle.std.proofs.Common.{◌≡◌, inl, inr, ◌⊎◌, ℕ, Bool, true, false, List, [], ◌∷◌, ◌++◌, Option, Result, Ok, Err, ap, sym, subst, ◌∙◌, refl, append_assoc, if◌then◌else◌}
use Rattle.chk_site.specs.declared.acts.Act.{Act}
use Rattle.chk_site.specs.declared.acts.Call.{Call}
use Rattle.chk_site.specs.History.{History, is_stopped}
use Rattle.chk_site.specs.Runs.{own_acts}
use Rattle.chk_site.specs.Site.{Adds, EndsIn}
use Rattle.chk_site.proofs.Runs.{adds_as, adds_none, adds_then}
use Rattle.chk_exchange.specs.declared.fault.ExchangeFault.{ExchangeFault}
use Rattle.chk_exchange.specs.declared.fault.ExchangeFault.TheVariants.{Outside as inside_failed, NoMemory as inside_wanting, Damaged as inside_damaged, Spent as inside_spent, Refused as inside_refused}
use Rattle.chk_exchange.specs.Faults.{FailedInside, FailedNewest, FailsLast as ExchangeFailsLast}
use Rattle.chk_round.specs.declared.faults.RoundFault.{RoundFault}
use Rattle.chk_round.specs.declared.faults.RoundFault.TheVariants.{Outside, NoMemory, Damaged, Length, Growing, Shrank, Spent, Refused, Checkpoint}
use Rattle.chk_round.specs.Faults.{FailsInside, FailsLast, of_exchange}
use Rattle.chk_round.specs.Scripts.{Anything}
use Rattle.chk_round.specs.Reading as told
use Rattle.chk_round.specs.Reading.{IsGrowing, IsShrank}
use Rattle.chk_site.proofs.LastCalls.{ends_in_both as newest}
use Rattle.chk_archive.proofs.OnceListed.{own_join}

pub went_none : (now : Option History) → Adds now now Anything
went_none now = adds_none now Anything (λ history. tt)

pub went : {P : History → History → Type 0} {old new : Option History} → Adds old new P → Adds old new Anything
went p = adds_as Anything p (λ a h x. tt)

pub went_then : {P Q : History → History → Type 0} {old mid new : Option History} → Adds old mid P → Adds mid new Q
    → Adds old new Anything
went_then p q = adds_then Anything p q (λ a b h x y. tt)

-- ---- behind other calls

failed : (call : Call) (xs ys : List Act) → FailedNewest call xs → FailedNewest call (xs ++ ys)
failed call [] ys f = absurd f
failed call (x ∷ xs) ys f = f

inside : (call : Call) (xs ys : List Act) → FailedInside call xs → FailedInside call (xs ++ ys)
inside call [] ys f = absurd f
inside call (x ∷ []) ys f = absurd f
inside call (x ∷ y ∷ xs) ys f = (f.0, f.1, failed call xs ys f.2)

late : (T U : Type 0) (fault : RoundFault) (b a history : History) → FailsInside {T = U} (Err fault) b (a ++ history)
    → FailsInside {T = T} (Err fault) (b ++ a) history
late T U (Outside call) b a history last =
    λ running. go (last (ap is_stopped (sym (append_assoc b a history)) ∙ running))
  where
    go : EndsIn call b ⊎ FailedInside call (own_acts b) → EndsIn call (b ++ a) ⊎ FailedInside call (own_acts (b ++ a))
    go (inl ends) = inl (newest call b a ends)
    go (inr f) =
        inr (subst (FailedInside call) (sym (own_join b a)) (inside call (own_acts b) (own_acts a) f))
late T U NoMemory b a history last = tt
late T U (Damaged name at) b a history last = tt
late T U (Checkpoint at) b a history last = tt
late T U (Length stem got want) b a history last = tt
late T U (Growing path reads) b a history last = tt
late T U (Shrank path had is) b a history last = tt
late T U (Spent number) b a history last = tt
late T U (Refused code) b a history last = tt

pub inside_late : (T U : Type 0) (fault : RoundFault) {P : History → History → Type 0} {old mid new : Option History}
    → Adds old mid P → Adds mid new (FailsInside {T = U} (Err fault)) → Adds old new (FailsInside {T = T} (Err fault))
inside_late T U fault p q =
    adds_then (FailsInside {T = T} (Err fault)) p q (λ a b history x y. late T U fault b a history y)

pub inside_then : {T : Type 0} (r : Result T RoundFault) {P : History → History → Type 0} {old mid new : Option History}
    → Adds old mid P → Adds mid new (FailsInside r) → Adds old new (FailsInside r)
inside_then (Ok value) p q = went_then p q
inside_then {T = T} (Err fault) p q = inside_late T T fault p q

-- ---- the parts

one : (T U : Type 0) (fault : RoundFault) (a h : History) → FailsLast {T = U} (Err fault) a h
    → FailsInside {T = T} (Err fault) a h
one T U (Outside call) a h last = λ running. inl (last running)
one T U NoMemory a h last = tt
one T U (Damaged name at) a h last = tt
one T U (Checkpoint at) a h last = tt
one T U (Length stem got want) a h last = tt
one T U (Growing path reads) a h last = tt
one T U (Shrank path had is) a h last = tt
one T U (Spent number) a h last = tt
one T U (Refused code) a h last = tt

pub last_inside : (T U : Type 0) (fault : RoundFault) {old new : Option History} → Adds old new (FailsLast {T = U} (Err fault))
    → Adds old new (FailsInside {T = T} (Err fault))
last_inside T U fault p = adds_as (FailsInside {T = T} (Err fault)) p (one T U fault)

exchange_one : (T U : Type 0) (fault : ExchangeFault) (a h : History) → ExchangeFailsLast {T = U} (Err fault) a h
    → FailsInside {T = T} (Err (of_exchange fault)) a h
exchange_one T U (inside_failed call) a h last = last
exchange_one T U inside_wanting a h last = tt
exchange_one T U (inside_damaged name at) a h last = tt
exchange_one T U (inside_spent number) a h last = tt
exchange_one T U (inside_refused code) a h last = tt

pub exchange_inside : (T U : Type 0) (fault : ExchangeFault) {old new : Option History}
    → Adds old new (ExchangeFailsLast {T = U} (Err fault)) → Adds old new (FailsInside {T = T} (Err (of_exchange fault)))
exchange_inside T U fault p = adds_as (FailsInside {T = T} (Err (of_exchange fault))) p (exchange_one T U fault)

-- an end that names no call
pub growing_inside : {path : List ℕ} {reads : ℕ} {fault : RoundFault} → IsGrowing path reads fault → {old new : Option History}
    → Adds old new Anything → Adds old new (FailsInside {T = Unit {0}} (Err fault))
growing_inside told.grows p = p
growing_inside told.untold p = p

pub shrank_inside : {path : List ℕ} {had size : ℕ} {fault : RoundFault} → IsShrank path had size fault → {old new : Option History}
    → Adds old new Anything → Adds old new (FailsInside {T = Unit {0}} (Err fault))
shrank_inside told.shrinks p = p
shrank_inside told.untold p = p
