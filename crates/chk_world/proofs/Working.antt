-- What is known of calls by their kinds.
use Rattle.std.proofs.Common.{◌≡◌, ◌≢◌, inl, inr, true, true≢false, List, [], ◌∷◌, Option, Some, None, Result, Ok, Err, sym, subst, refl, ◌∙◌}
use Rattle.chk_site.specs.declared.acts.Who.{Who}
use Rattle.chk_site.specs.declared.acts.CallFault.{CallFault}
use Rattle.chk_site.specs.declared.acts.CallFault.TheVariants.{Failed, Missing, Exists, Short, NoMemory}
use Rattle.chk_site.specs.declared.acts.OutsideFault.{OutsideFault}
use Rattle.chk_site.specs.declared.acts.OutsideFault.TheVariants.{NoMemory as no_memory}
use Rattle.chk_site.specs.declared.acts.ActAnswer.{ActAnswer}
use Rattle.chk_site.specs.declared.acts.ActAnswer.TheVariants.{Refused}
use Rattle.chk_site.specs.Acts.{Deed}
use Rattle.chk_site.specs.History.{Step, History, Every, IsTheirs}
use Rattle.chk_site.specs.Site.{Adds, Asked, answered, plain, Acted, Calls, IsDone, IsTaken, Ends, LastFailed, WasDone}
use Rattle.chk_site.specs.Runs.{Owns, MadeInTurn, finished, unbegun as unmade, went_on, ended}
use Rattle.chk_site.proofs.Leads.{call_owned}
use Rattle.chk_site.proofs.Runs.{adds_then, adds_as, adds_none, every_join, ran}
use Rattle.chk_site.proofs.LastCalls.{ended_last as ends_last}
use Rattle.chk_site.proofs.LastCalls.{last_of_both as last_then}
use Rattle.chk_world.specs.Works.{Works, rests, unbegun, works, ends, IsOneOf, Asks, NoneFailed, WentOn, fault_of, deed_of}

-- ---- how they join

pub works_then : {who : Who} {P : Deed → Type 0} {fault : Option OutsideFault} {old mid new : Option History}
    → Works who P None old mid → Works who P fault mid new → Works who P fault old new
works_then rests later = later
works_then (works q given by may is told more) later = works q given by may is told (works_then more later)

-- kinds that are allowed more widely
pub works_as : {who : Who} {P : Deed → Type 0} {fault : Option OutsideFault} {old new : Option History} (Q : Deed → Type 0)
    → ((call : Deed) → P call → Q call) → Works who P fault old new → Works who Q fault old new
works_as Q wider rests = rests
works_as Q wider unbegun = unbegun
works_as Q wider (works q given by may is told more) =
    works q given by (wider (deed_of q) may) is told (works_as Q wider more)
works_as Q wider (ends q given by may is told) = ends q given by (wider (deed_of q) may) is told

-- a part that was done, and then another one
pub works_both : {who : Who} {P Q : Deed → Type 0} {fault : Option OutsideFault} {old mid new : Option History} (R : Deed → Type 0)
    → ((call : Deed) → P call → R call) → ((call : Deed) → Q call → R call) → Works who P None old mid → Works who Q fault mid new
    → Works who R fault old new
works_both R first second early later = works_then (works_as R first early) (works_as R second later)

-- ---- of one call, and of a script

-- the call's values are told by answers of calls that took place
abbrev pub Gives : {V : Type 0} → (V → ActAnswer) → Type 0
Gives {V} how = (value : V) → WasDone (how value)

answered_done : {V : Type 0} (how : V → ActAnswer) (given : Result V CallFault) → Gives how → IsDone given → WentOn (answered how given)
answered_done how (Ok value) gives is = gives value
answered_done how (Err Failed) gives is = is
answered_done how (Err Missing) gives is = tt
answered_done how (Err Exists) gives is = tt
answered_done how (Err (Short size)) gives is = tt
answered_done how (Err NoMemory) gives is = is

answered_ends : {V : Type 0} (q : Asked) (how : V → ActAnswer) (given : Result V CallFault) (fault : OutsideFault) → Ends q.call given fault
    → Ends q.call (answered how given) fault
answered_ends q how (Ok value) fault is = is
answered_ends q how (Err Failed) fault is = is
answered_ends q how (Err Missing) fault is = is
answered_ends q how (Err Exists) fault is = is
answered_ends q how (Err (Short size)) fault is = is
answered_ends q how (Err NoMemory) fault is = is

taken_done : {V : Type 0} (given : Result V CallFault) (taken : Option V) → IsTaken given taken → IsDone given
taken_done (Ok value) taken is = tt
taken_done (Err Failed) taken is = is
taken_done (Err Missing) taken is = tt
taken_done (Err Exists) taken is = tt
taken_done (Err (Short size)) taken is = tt
taken_done (Err NoMemory) taken is = is

-- a call that was done
pub call_works : {V : Type 0} {P : Deed → Type 0} {old new : Option History} (q : Asked) (how : V → ActAnswer) (given : Result V CallFault)
    → Gives how → P (deed_of q) → IsDone given → Adds old new (Calls q (answered how given)) → Works q.who P None old new
call_works q how given gives may is told = works q (answered how given) refl may (answered_done how given gives is) told rests

-- one that gave something, or nothing
pub taken_works : {V : Type 0} {P : Deed → Type 0} {old new : Option History} (q : Asked) (how : V → ActAnswer) (given : Result V CallFault)
    (taken : Option V) → Gives how → P (deed_of q) → IsTaken given taken → Adds old new (Calls q (answered how given)) → Works q.who P None old new
taken_works q how given taken gives may is told = call_works q how given gives may (taken_done given taken is) told

-- one that ended the work
pub call_ends : {V : Type 0} {P : Deed → Type 0} {old new : Option History} (q : Asked) (how : V → ActAnswer) (given : Result V CallFault)
    (fault : OutsideFault) → P (deed_of q) → Ends q.call given fault → Adds old new (Calls q (answered how given))
    → Works q.who P (Some fault) old new
call_ends q how given fault may is told = ends q (answered how given) refl may (answered_ends q how given fault is) told

-- the calls of a script are all by one process
abbrev pub AreBy : Who → List Asked → Type 0
AreBy who [] = Unit {0}
AreBy who (q ∷ qs) = (q.who ≡ who) × AreBy who qs

pub script_works : (who : Who) (qs : List Asked) {result : Result (Unit {0}) OutsideFault} {old new : Option History} → AreBy who qs
    → MadeInTurn qs result old new → Works who (IsOneOf qs) (fault_of result) old new
script_works who qs by finished = rests
script_works who qs by unmade = unbegun
script_works who (q ∷ qs) by (went_on given is told more) =
    works q (answered plain given) by.0 (inl refl) (answered_done plain given (λ value. tt) is) told
    (works_as (IsOneOf (q ∷ qs)) (λ call one. inr one) (script_works who qs by.1 more))
script_works who (q ∷ qs) by (ended given is told) = ends q (answered plain given) by.0 (inl refl) (answered_ends q plain given _ is) told

-- ---- what they show

-- each own step is by the process, and asks for what is allowed
pub works_own : {who : Who} {P : Deed → Type 0} {fault : Option OutsideFault} {old new : Option History} → Works who P fault old new
    → Adds old new (Owns (Asks who P))
works_own {who = who} {P = P} rests = adds_none _ (Owns (Asks who P)) (λ history. tt)
works_own {who = who} {P = P} unbegun = adds_none _ (Owns (Asks who P)) (λ history. tt)
works_own {who = who} {P = P} (works q given by may is told more) =
    adds_then (Owns (Asks who P))
    (adds_as (Owns (Asks who P)) told
    (λ a h calls. call_owned (Asks who P) given (λ before answer files logs running. record { by = by; allowed = may }) calls))
    (works_own more) (λ a b h x y. every_join (λ before step. step.own ≡ true → Asks who P before step) b a h x y)
works_own {who = who} {P = P} (ends q given by may is told) =
    adds_as (Owns (Asks who P)) told
    (λ a h calls. call_owned (Asks who P) given (λ before answer files logs running. record { by = by; allowed = may }) calls)

-- the step's call didn't fail
abbrev Fine : History → Step → Type 0
Fine before step = step.act.answer ≢ Refused Failed

pub theirs_fine : (added history : History) → Every IsTheirs added history → Owns Fine added history
theirs_fine [] history theirs = tt
theirs_fine (step ∷ added) history theirs = (theirs_fine added history theirs.0, λ own. absurd (true≢false (sym own ∙ theirs.1.0)))

fine_answer : (answer : ActAnswer) → WasDone answer → answer ≢ Refused Failed
fine_answer answer was e = subst WasDone e was

acted_fine : {q : Asked} (answer : ActAnswer) {added history : History} → WasDone answer → Acted q answer added history → Owns Fine added history
acted_fine answer {history = history} was acted =
    subst (λ (a : History). Owns Fine a history) (sym acted.added_is) (theirs_fine acted.others history acted.theirs, λ own. fine_answer answer was)

call_fine : {q : Asked} (given : Result ActAnswer CallFault) {added history : History} → WentOn given → Calls q given added history
    → Owns Fine added history
call_fine (Ok answer) is calls = acted_fine answer is (ran (Ok answer) (λ e. cc) calls)
call_fine (Err Failed) is calls = absurd is
call_fine (Err Missing) is calls = acted_fine (Refused Missing) tt (ran (Err Missing) (λ e. cc) calls)
call_fine (Err Exists) is calls = acted_fine (Refused Exists) tt (ran (Err Exists) (λ e. cc) calls)
call_fine (Err (Short size)) is calls = acted_fine (Refused (Short size)) tt (ran (Err (Short size)) (λ e. cc) calls)
call_fine (Err NoMemory) is calls = absurd is

-- where none ended the work, none failed
pub works_fine : {who : Who} {P : Deed → Type 0} {old new : Option History} → Works who P None old new → Adds old new NoneFailed
works_fine rests = adds_none _ NoneFailed (λ history. tt)
works_fine (works q given by may is told more) =
    adds_then NoneFailed (adds_as NoneFailed told (λ a h calls. call_fine given is calls)) (works_fine more)
    (λ a b h x y. every_join (λ before step. step.own ≡ true → Fine before step) b a h x y)

-- the one that ended the work is the last
pub works_last : (T : Type 0) {who : Who} {P : Deed → Type 0} (fault : OutsideFault) {old new : Option History} → Works who P (Some fault) old new
    → Adds old new (LastFailed {T = T} (Err fault))
works_last T fault unbegun = adds_none _ (LastFailed {T = T} (Err no_memory)) (λ history. tt)
works_last T fault (works q given by may is told more) =
    adds_then (LastFailed {T = T} (Err fault)) told (works_last T fault more) (λ a b h calls last. last_then {T = T} (Err fault) b a h last)
works_last T fault (ends q given by may is told) =
    adds_as (LastFailed {T = T} (Err fault)) told (λ a h calls. ends_last T (λ (a : ActAnswer). a) given fault is (same given calls))
  where
    same : {q : Asked} (given : Result ActAnswer CallFault) {a h : History} → Calls q given a h → Calls q (answered (λ (a : ActAnswer). a) given) a h
    same (Ok value) calls = calls
    same (Err fault) calls = calls
