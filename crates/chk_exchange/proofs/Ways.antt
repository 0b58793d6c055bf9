-- The ways of an exchange: which call failed last, that none did, and what stays of the agent.
use Rattle.std.proofs.Common.{◌≡◌, ℕ, false, List, [], ◌∷◌, ◌++◌, Option, Some, None, Ok, Err, refl, sym, subst, ◌∙◌}
use Rattle.std.proofs.lemmas.Option.{same_Some, none-some}
use Rattle.chk_site.specs.declared.acts.Who.{Who}
use Rattle.chk_site.specs.declared.acts.Call.{Call}
use Rattle.chk_site.specs.declared.acts.Call.TheVariants.{Got, Take, Answer}
use Rattle.chk_site.specs.History.{History, is_stopped}
use Rattle.chk_site.specs.Messages.{self_address}
use Rattle.chk_site.specs.declared.acts.ActAnswer.{ActAnswer}
use Rattle.chk_site.specs.Site.{Adds, Asked, asked, plain, taking_given, Calls, EndsIn}
use Rattle.chk_site.proofs.Runs.{adds_as, adds_then}
use Rattle.chk_world.specs.Works.{NoneFailed}
use Rattle.chk_world.proofs.Working.{works_own}
use Rattle.chk_sink.specs.declared.fault.SinkFault.TheVariants.{Outside as sink_outside, Damaged as sink_damaged, Spent as sink_spent, NoMemory as sink_wanting}
use Rattle.chk_sink.specs.States.{State as Sinks}
use Rattle.chk_collector.specs.Outcomes.{Outcome, Refused as outcome_refused, BadPost, Lines, Fails, OutcomeActs, OutcomeLast}
use Rattle.chk_exchange.specs.declared.fault.ExchangeFault.{ExchangeFault}
use Rattle.chk_exchange.specs.declared.fault.ExchangeFault.TheVariants.{Outside, NoMemory, Damaged, Spent, Refused}
use Rattle.chk_exchange.specs.Exchanges.{Responds, unreplied, unsent, unread, sent, Serves, untaken, none, taken}
use Rattle.chk_exchange.specs.Faults.{IsMade, FailsLast}
use Rattle.chk_exchange.proofs.Lasting.{last_then, ended, ended_some, failed_inside, fine, fine_some, fine_then, fine_none}

-- the steps of several calls, of which nothing is said
abbrev pub Any : Option History → Option History → Type 0
Any old new = Adds old new (λ added history. Unit {0})

pub any : {P : History → History → Type 0} {old new : Option History} → Adds old new P → Any old new
any p = adds_as (λ added history. Unit {0}) p (λ added history x. tt)

pub any_then : {old mid new : Option History} → Any old mid → Any mid new → Any old new
any_then p q = adds_then (λ added history. Unit {0}) p q (λ a b history x y. tt)

-- without memory no call is told to have failed
pub wanting_last : (T : Type 0) {old new : Option History} → Any old new
    → Adds old new (FailsLast {T = T} (Err NoMemory))
wanting_last T p = adds_as (FailsLast {T = T} (Err NoMemory)) p (λ added history x. tt)

-- ---- the collector's part

responds_any : {who : Who} {s u : Sinks} {t : ℕ} {request : List ℕ} {made : Option ExchangeFault}
    {old new : Option History}
    → Responds who s t request (Ok made) u old new → Any old new
responds_any (sent reply made replied is call) = any_then (any replied.last) (any call)

pub serves_any : {who : Who} {s u : Sinks} {made : Option ExchangeFault} {old new : Option History}
    → Serves who s (Ok made) u old new → Any old new
serves_any (none call) = any call
serves_any (taken taking call responds) = any_then (any call) (responds_any responds)

responds_last : (T : Type 0) {who : Who} {s u : Sinks} {t : ℕ} {request : List ℕ}
    {fault : ExchangeFault}
    {old new : Option History} → Responds who s t request (Err fault) u old new
    → Adds old new (FailsLast {T = T} (Err fault))
responds_last T (unreplied un) = wanting_last T (any (works_own un.own))
responds_last T {who = who} {t = t} (unsent reply fault given replied ends call) =
    last_then {T = T} (Err fault) replied.last
    (ended T (asked who Answer (reply ∷ []) t 0) plain given fault ends call)
responds_last T (unread reply replied is call) =
    wanting_last T (any_then (any replied.last) (any call))

pub serves_last : (T : Type 0) {who : Who} {s u : Sinks} {fault : ExchangeFault}
    {old new : Option History}
    → Serves who s (Err fault) u old new → Adds old new (FailsLast {T = T} (Err fault))
serves_last T {who = who} (untaken fault given ends call) =
    ended_some T Take (λ n. asked who Take (self_address ∷ []) 0 0)
    (λ n. refl) taking_given given fault ends call
serves_last T {fault = fault} (taken taking call responds) =
    last_then {T = T} (Err fault) call (responds_last T responds)

-- ---- a fault that the made reply tells

-- the call that it names failed last
outcome_last : (call : Call) (o : Outcome) → IsMade o (Some (Outside call))
    → {old new : Option History}
    → Adds old new (OutcomeLast o)
    → Adds old new (λ added history. is_stopped (added ++ history) ≡ false → EndsIn call added)
outcome_last call (outcome_refused fault) is last = absurd (none-some (Outside call) (sym is))
outcome_last call (BadPost fault) is last = absurd (none-some (Outside call) (sym is))
outcome_last call (Lines acks) is last = absurd (none-some (Outside call) (sym is))
outcome_last call (Fails (sink_outside other)) is {old = old} {new = new} last =
    subst (λ k. Adds old new (λ added history. is_stopped (added ++ history) ≡ false
    → EndsIn k added))
    (same other call (sym is.2 ∙ sym (same_Some (Outside call) is.0 is.1))) last
  where
    same : (x y : Call) → Outside x ≡ Outside y → x ≡ y
    same x y e = cc
outcome_last call (Fails (sink_damaged name at)) is last =
    absurd (apart call name is.2.0 (same_Some (Outside call) is.0 is.1 ∙ is.2.1))
  where
    apart : (x : Call) (name : List ℕ) (k : ℕ) → Outside x ≡ Damaged name k → ⊥
    apart x name k e = cc
outcome_last call (Fails (sink_spent born)) is last =
    absurd (apart call is.2.0 (same_Some (Outside call) is.0 is.1 ∙ is.2.1))
  where
    apart : (x : Call) (k : ℕ) → Outside x ≡ Spent k → ⊥
    apart x k e = cc
outcome_last call (Fails sink_wanting) is last = absurd is.2

module _ (T : Type 0) (g : Asked) (is_got : g.call ≡ Got) (got : ActAnswer) where
  responds_told : {who : Who} {s u : Sinks} {t : ℕ} {request : List ℕ}
      (call : Call) {old next new : Option History}
      → Responds who s t request (Ok (Some (Outside call))) u old next
      → Adds next new (Calls g (Ok got))
      → Adds old new (FailsLast {T = T} (Err (Outside call)))
  responds_told {who = who} {t = t} call (sent reply made replied is answers) gets =
      failed_inside T call (asked who Answer (reply ∷ []) t 0) g refl is_got (plain (tt {0})) got
      (outcome_last call replied.outcome is replied.last) answers gets

  pub told_last : {who : Who} {s u : Sinks} (fault : ExchangeFault) {old next new : Option History}
      → Serves who s (Ok (Some fault)) u old next → Adds next new (Calls g (Ok got))
      → Adds old new (FailsLast {T = T} (Err fault))
  told_last (Outside call) (taken taking takes responds) gets =
      last_then {T = T} (Err (Outside call)) takes (responds_told call responds gets)
  told_last NoMemory serves gets = wanting_last T (any_then (serves_any serves) (any gets))
  told_last (Damaged name at) serves gets =
      adds_as (FailsLast {T = T} (Err (Damaged name at))) (any_then (serves_any serves) (any gets))
      (λ added history x. tt)
  told_last (Spent number) serves gets =
      adds_as (FailsLast {T = T} (Err (Spent number))) (any_then (serves_any serves) (any gets))
      (λ added history x. tt)
  told_last (Refused code) serves gets =
      adds_as (FailsLast {T = T} (Err (Refused code))) (any_then (serves_any serves) (any gets))
      (λ added history x. tt)

-- ---- none failed

acts_fine : (o : Outcome) → IsMade o None → {old new : Option History}
    → Adds old new (OutcomeActs o) → Adds old new NoneFailed
acts_fine (outcome_refused fault) is acts = fine_none acts
acts_fine (BadPost fault) is acts = fine_none acts
acts_fine (Lines acks) is acts = acts
acts_fine (Fails fault) is acts = absurd (none-some is.0 is.1)

responds_fine : {who : Who} {s u : Sinks} {t : ℕ} {request : List ℕ} {old new : Option History}
    → Responds who s t request (Ok None) u old new → Adds old new NoneFailed
responds_fine {who = who} {t = t} (sent reply made replied is call) =
    fine_then (acts_fine replied.outcome is replied.acts)
    (fine (asked who Answer (reply ∷ []) t 0) (plain (tt {0})) tt call)

pub serves_fine : {who : Who} {s u : Sinks} {old new : Option History}
    → Serves who s (Ok None) u old new
    → Adds old new NoneFailed
serves_fine {who = who} (none call) =
    fine_some (λ n. asked who Take (self_address ∷ []) 0 0) (λ n. taking_given n None)
    (λ n. tt) call
serves_fine {who = who} (taken taking call responds) =
    fine_then
    (fine_some (λ n. asked who Take (self_address ∷ []) 0 0) (λ n. taking_given n (Some taking))
    (λ n. tt) call)
    (responds_fine responds)
