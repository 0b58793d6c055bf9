-- How calls in turn join, and which one comes last.
use Rattle.std.proofs.Common.{◌≡◌, ℕ, List, [], ◌++◌, Option, Result, Ok, Err, ap, sym, subst, refl, ◌∙◌}
use Rattle.std.specs.Prelude.{IsErrAnd}
use Rattle.std.proofs.lemmas.Result.{err_from_is_err_and}
use Rattle.chk_site.specs.declared.acts.OutsideFault.{OutsideFault}
use Rattle.chk_site.specs.declared.acts.OutsideFault.TheVariants.{Outside as site_failed, NoMemory as no_memory}
use Rattle.chk_site.specs.History.{History}
use Rattle.chk_site.specs.Site.{Adds, Asked, LastFailed}
use Rattle.chk_site.specs.Runs.{MadeInTurn, finished, unbegun, went_on, ended}
use Rattle.chk_site.proofs.Runs.{adds_as, adds_none}
use Rattle.chk_replace.proofs.CallSteps.{script_last}
use Rattle.chk_wahead.specs.declared.fault.WaheadFault.{WaheadFault}
use Rattle.chk_wahead.specs.Faults.{FailsLast, wahead_result}
use Rattle.chk_wahead.specs.States.{State, Held}
use Rattle.chk_wahead.specs.Scripts.{Did}

-- the refusal that a `?` hands on
pub refused_by : {T E : Type 0} {result : Result T E} {fault : E} → IsErrAnd result (λ e. e ≡ fault) → result ≡ Err fault
refused_by {result = result} told = let p = err_from_is_err_and result told in p.1 ∙ ap Err p.2

-- ---- calls in turn

done_first : {qs rs : List Asked} {first result : Result (Unit {0}) OutsideFault} {old mid new : Option History} → first ≡ Ok tt
    → MadeInTurn qs first old mid → MadeInTurn rs result mid new → MadeInTurn (qs ++ rs) result old new
done_first is finished later = later
done_first is unbegun later = absurd (cc)
done_first is (went_on given done told more) later = went_on given done told (done_first is more later)
done_first is (ended given ends told) later = absurd (cc)

-- some calls that were done, and then others
pub script_then : {qs rs : List Asked} {result : Result (Unit {0}) OutsideFault} {old mid new : Option History}
    → MadeInTurn qs (Ok tt) old mid → MadeInTurn rs result mid new → MadeInTurn (qs ++ rs) result old new
script_then early later = done_first refl early later

failed_first : {qs : List Asked} (rs : List Asked) {first : Result (Unit {0}) OutsideFault} (fault : OutsideFault) {old new : Option History}
    → first ≡ Err fault → MadeInTurn qs first old new → MadeInTurn (qs ++ rs) first old new
failed_first rs fault is finished = absurd (cc)
failed_first rs fault is unbegun = unbegun
failed_first rs fault is (went_on given done told more) = went_on given done told (failed_first rs fault is more)
failed_first rs fault is (ended given ends told) = ended given ends told

-- behind calls that ended the work no others follow
pub script_ended : {qs : List Asked} (rs : List Asked) {fault : OutsideFault} {old new : Option History}
    → MadeInTurn qs (Err fault) old new → MadeInTurn (qs ++ rs) (Err fault) old new
script_ended rs {fault = fault} early = failed_first rs fault refl early

-- by other words
pub script_as : {qs rs : List Asked} {result : Result (Unit {0}) OutsideFault} {old new : Option History} → qs ≡ rs
    → MadeInTurn qs result old new → MadeInTurn rs result old new
script_as {result = result} {old = old} {new = new} same script = subst (λ cs. MadeInTurn cs result old new) same script

-- ---- the last call

pub fails_as : {T : Type 0} (U : Type 0) (outside : Result T OutsideFault) (added history : History) → LastFailed outside added history
    → FailsLast (wahead_result outside) added history
fails_as U (Ok value) added history last = last
fails_as U (Err (site_failed call)) added history last = last
fails_as U (Err no_memory) added history last = last

-- the last call of what was done
pub did_last : {calls : List Asked} {s : State} {number : ℕ} {held : Option Held} {result : Result (Unit {0}) WaheadFault} {s' : State}
    {old new : Option History} → Did calls s number held result s' old new → Adds old new (FailsLast result)
did_last {result = result} d =
    adds_as (FailsLast result) (script_last d.made)
    (λ added history last. subst (λ r. FailsLast r added history) (sym d.result_is) (fails_as (Unit {0}) d.outside added history last))

-- where nothing was done, no call failed
pub none_last : {T : Type 0} (result : Result T WaheadFault) {old new : Option History} → new ≡ old
    → ((history : History) → FailsLast result [] history) → Adds old new (FailsLast result)
none_last result {old = old} same nothing =
    subst (λ h. Adds old h (FailsLast result)) (sym same) (adds_none old (FailsLast result) nothing)
