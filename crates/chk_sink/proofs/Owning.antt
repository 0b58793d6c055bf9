-- Which calls the parts of the sinks make.
use Rattle.std.proofs.Common.{◌≡◌, ℕ, List, Option, Some, None, Result, Ok, Err, ap, sym, subst, refl, ◌∙◌}
use Rattle.std.specs.Prelude.{IsErrAnd}
use Rattle.std.proofs.lemmas.Result.{err_from_is_err_and}
use Rattle.chk_bytes.specs.Stems.{Stem}
use Rattle.chk_site.specs.declared.acts.Who.{Who}
use Rattle.chk_site.specs.declared.acts.Call.{Call}
use Rattle.chk_site.specs.declared.acts.CallFault.{CallFault}
use Rattle.chk_site.specs.declared.acts.CallFault.TheVariants.{Failed, NoMemory as NoRoom}
use Rattle.chk_site.specs.declared.acts.OutsideFault.{OutsideFault}
use Rattle.chk_site.specs.declared.acts.OutsideFault.TheVariants.{Outside as site_failed, NoMemory as no_memory}
use Rattle.chk_site.specs.declared.acts.ActAnswer.{ActAnswer}
use Rattle.chk_site.specs.Acts.{Deed}
use Rattle.chk_site.specs.History.{History}
use Rattle.chk_site.specs.Site.{Adds, Asked, Calls, answered, plain}
use Rattle.chk_site.specs.Runs.{MadeInTurn}
use Rattle.chk_site.proofs.Runs.{adds_as}
use Rattle.chk_world.specs.Works.{Works, unbegun, IsOneOf, fault_of, deed_of}
use Rattle.chk_world.proofs.Working.{Gives, works_then, call_works, taken_works, call_ends, script_works, works_own, works_last}
use Rattle.chk_sink.specs.declared.fault.SinkFault.{SinkFault}
use Rattle.chk_sink.specs.declared.fault.SinkFault.TheVariants.{Outside, Damaged, Spent, NoMemory}
use Rattle.chk_sink.specs.Calls.{MadeOnce}
use Rattle.chk_sink.specs.Damage.{IsDamageOf}
use Rattle.chk_sink.specs.Asking.{TakenOnce}
use Rattle.chk_sink.specs.Faults.{FailsLast, ended_by, sink_fault, sink_result}
use Rattle.chk_sink.specs.Closing.{publishing, closing}

-- ---- what ended the work

-- the refusal that a `?` hands on
pub refused_by : {T E : Type 0} {result : Result T E} {fault : E} → IsErrAnd result (λ e. e ≡ fault) → result ≡ Err fault
refused_by {result = result} told = let p = err_from_is_err_and result told in p.1 ∙ ap Err p.2

-- the work of this process ended so
abbrev pub Made : {T : Type 0} → Who → (Deed → Type 0) → Result T SinkFault → Option History → Option History → Type 0
Made who P result = Works who P (ended_by result)

fault_ended : (T : Type 0) (fault : OutsideFault) → ended_by {T = T} (Err (sink_fault fault)) ≡ Some fault
fault_ended T (site_failed call) = refl
fault_ended T no_memory = refl

result_ended : {T : Type 0} (made : Result T OutsideFault) → ended_by (sink_result made) ≡ fault_of made
result_ended (Ok value) = refl
result_ended {T = T} (Err fault) = fault_ended T fault

-- a refusal, by the fault of the outside
pub made_err : {T : Type 0} {who : Who} {P : Deed → Type 0} (result : Result T SinkFault) (fault : OutsideFault) {old new : Option History}
    → result ≡ Err (sink_fault fault) → Works who P (Some fault) old new → Made who P result old new
made_err {T = T} {who = who} {P = P} result fault {old = old} {new = new} e w =
    subst (λ f. Works who P f old new) (sym (ap (λ r. ended_by r) e ∙ fault_ended T fault)) w

pub made_result : {T : Type 0} {who : Who} {P : Deed → Type 0} (result : Result T SinkFault) (made : Result T OutsideFault) {old new : Option History}
    → result ≡ sink_result made → Works who P (fault_of made) old new → Made who P result old new
made_result {who = who} {P = P} result made {old = old} {new = new} e w =
    subst (λ f. Works who P f old new) (sym (ap (λ r. ended_by r) e ∙ result_ended made)) w

err_same : (T U : Type 0) (fault : SinkFault) → ended_by {T = T} (Err fault) ≡ ended_by {T = U} (Err fault)
err_same T U (Outside call) = refl
err_same T U (Damaged name at) = refl
err_same T U (Spent born) = refl
err_same T U NoMemory = refl

-- the same refusal, of another call
pub made_as : {T U : Type 0} {who : Who} {P : Deed → Type 0} (part : Result T SinkFault) (result : Result U SinkFault) (fault : SinkFault)
    {old new : Option History} → part ≡ Err fault → result ≡ Err fault → Made who P part old new → Made who P result old new
made_as {T = T} {U = U} {who = who} {P = P} part result fault {old = old} {new = new} e f w =
    subst (λ k. Works who P k old new) (ap (λ r. ended_by r) e ∙ (err_same T U fault ∙ sym (ap (λ r. ended_by r) f))) w

-- a part that was done
pub made_ok : {T : Type 0} {who : Who} {P : Deed → Type 0} (part : Result T SinkFault) (value : T) {old new : Option History}
    → part ≡ Ok value → Made who P part old new → Works who P None old new
made_ok {who = who} {P = P} part value {old = old} {new = new} e w = subst (λ k. Works who P k old new) (ap (λ r. ended_by r) e) w

-- no call
pub made_none : {T : Type 0} {who : Who} {P : Deed → Type 0} (result : Result T SinkFault) (now : Option History) → result ≡ Err NoMemory
    → Made who P result now now
made_none result now e = made_err result no_memory e unbegun

-- ---- one call

pub once_works : {P : Deed → Type 0} (q : Asked) (made r : Result (Unit {0}) OutsideFault) {old new : Option History} → made ≡ r → P (deed_of q)
    → MadeOnce q made old new → Works q.who P (fault_of r) old new
once_works {P = P} q made r {old = old} {new = new} is may m = subst (λ k. Works q.who P (fault_of k) old new) is (by made m)
  where
    by : (made : Result (Unit {0}) OutsideFault) → MadeOnce q made old new → Works q.who P (fault_of made) old new
    by (Ok value) m = call_works q plain m.given (λ v. tt) may m.came m.told
    by (Err fault) m = call_ends q plain m.given fault may m.came m.told

pub taken_once : {V : Type 0} {P : Deed → Type 0} (q : Asked) (how : V → ActAnswer) (made r : Result (Option V) OutsideFault)
    {old new : Option History} → made ≡ r → Gives how → P (deed_of q) → TakenOnce q how made old new → Works q.who P (fault_of r) old new
taken_once {V = V} {P = P} q how made r {old = old} {new = new} is gives may m = subst (λ k. Works q.who P (fault_of k) old new) is (by made m)
  where
    by : (made : Result (Option V) OutsideFault) → TakenOnce q how made old new → Works q.who P (fault_of made) old new
    by (Ok taken) m = taken_works q how m.given taken gives may m.came m.told
    by (Err fault) m = call_ends q how m.given fault may m.came m.told

-- what ended the work, by what a call gave
abbrev pub given_fault : {V : Type 0} → Call → Result V CallFault → Option OutsideFault
given_fault call (Err Failed) = Some (site_failed call)
given_fault call (Err NoRoom) = Some no_memory
given_fault call given = None

-- a call that gave this
pub tried_works : {V : Type 0} {P : Deed → Type 0} {old new : Option History} (q : Asked) (how : V → ActAnswer) (given r : Result V CallFault)
    → given ≡ r → Gives how → P (deed_of q) → Adds old new (Calls q (answered how given)) → Works q.who P (given_fault q.call r) old new
tried_works {V = V} {P = P} {old = old} {new = new} q how given r is gives may told =
    subst (λ (k : Result V CallFault). Works q.who P (given_fault q.call k) old new) is (by given told)
  where
    by : (given : Result V CallFault) → Adds old new (Calls q (answered how given)) → Works q.who P (given_fault q.call given) old new
    by (Ok value) told = call_works q how (Ok value) gives may tt told
    by (Err Failed) told = call_ends q how (Err Failed) (site_failed q.call) may refl told
    by (Err NoRoom) told = call_ends q how (Err NoRoom) no_memory may refl told
    by (Err fault) told = call_works q how (Err fault) gives may tt told

-- it showed that a file is damaged
pub damaged_works : (T : Type 0) {who : Who} {P : Deed → Type 0} (w : List ℕ) (fault : SinkFault) {old new : Option History} → IsDamageOf w fault
    → Works who P None old new → Made {T = T} who P (Err fault) old new
damaged_works T w (Damaged name at) is told = told
damaged_works T w NoMemory is told = works_then told unbegun
damaged_works T w fault is told = absurd is

-- the process is the sinks' own
pub made_by : {f : Option OutsideFault} {who by : Who} {P : Deed → Type 0} {old new : Option History} → who ≡ by → Works who P f old new
    → Works by P f old new
made_by {f = f} {P = P} {old = old} {new = new} e w = subst (λ k. Works k P f old new) e w

-- ---- the calls of a commit and of a close

pub publishing_works : (who : Who) (x : Stem) (n : ℕ) {made : Result (Unit {0}) OutsideFault} {old new : Option History}
    → MadeInTurn (publishing who x n) made old new → Works who (IsOneOf (publishing who x n)) (fault_of made) old new
publishing_works who x n script =
    script_works who (publishing who x n) (refl, (refl, (refl, (refl, (refl, (refl, tt)))))) script

pub closing_works : (who : Who) (x : Stem) {made : Result (Unit {0}) OutsideFault} {old new : Option History}
    → MadeInTurn (closing who x) made old new → Works who (IsOneOf (closing who x)) (fault_of made) old new
closing_works who x script = script_works who (closing who x) (refl, (refl, tt)) script

-- ---- the last of them failed

pub fails_of : {T : Type 0} {who : Who} {P : Deed → Type 0} (result : Result T SinkFault) {old new : Option History} → Made who P result old new
    → Adds old new (FailsLast result)
fails_of (Ok value) w = adds_as (FailsLast (Ok value)) (works_own w) (λ a h x. tt)
fails_of {T = T} (Err (Outside call)) w = works_last T (site_failed call) w
fails_of {T = T} (Err fault) w = adds_as (FailsLast {T = T} (Err fault)) (works_own w) (λ a h x. tt)
