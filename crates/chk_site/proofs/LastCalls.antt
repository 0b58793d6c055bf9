-- The failure of a call comes last.
use Rattle.std.proofs.Common.{◌≡◌, inl, inr, Bool, true, false, [], ◌∷◌, ◌++◌, Ok, Err, Result}
use Rattle.std.proofs.Common.{refl, sym, subst, append_assoc}
use Rattle.chk_site.specs.declared.acts.Call.{Call}
use Rattle.chk_site.specs.declared.acts.OutsideFault.{OutsideFault}
use Rattle.chk_site.specs.declared.acts.OutsideFault.TheVariants.{Outside, NoMemory as no_memory}
use Rattle.chk_site.specs.declared.acts.CallFault.{CallFault}
use Rattle.chk_site.specs.declared.acts.CallFault.TheVariants.{Failed, Missing, Exists}
use Rattle.chk_site.specs.declared.acts.CallFault.TheVariants.{Short, NoMemory}
use Rattle.chk_site.specs.declared.acts.ActAnswer.{ActAnswer}
use Rattle.chk_site.specs.History.{History, is_stopped}
use Rattle.chk_site.specs.Site.{Asked, answered, Calls, Ends, EndsIn, LastFailed}

pub ends_in_both : (call : Call) (b a : History) → EndsIn call b → EndsIn call (b ++ a)
ends_in_both call [] a ends = absurd ends
ends_in_both call (step ∷ b) a ends = ends

-- the last step of the second stretch is the last one of both
pub last_of_both : {T : Type 0} (result : Result T OutsideFault) (b a history : History)
    → LastFailed result b (a ++ history) → LastFailed result (b ++ a) history
last_of_both (Ok value) b a history last = tt
last_of_both (Err (Outside call)) b a history last = λ running.
    ends_in_both call b a
    (last (subst (λ (h : History). is_stopped h ≡ false) (append_assoc b a history) running))
last_of_both (Err no_memory) b a history last = tt

-- a call that failed ends in its failure, where it wasn't stopped
pub failed_last : (T : Type 0) {q : Asked} {added history : History}
    → Calls q (Err Failed) added history
    → LastFailed {T = T} (Err (Outside q.call)) added history
failed_last T {q = q} {added = added} {history = history} calls =
    let L : History → Type 0 = λ a. is_stopped (a ++ history) ≡ false → EndsIn q.call a in
    let by : (b : Bool) → is_stopped history ≡ b → L added =
    λ b. elim b as (λ b. is_stopped history ≡ b → L added) [
      | true ↦ λ e. subst L (sym (calls.stopped e).0)
          (λ running. absurd (let x : is_stopped history ≡ false = running in cc))
      | false ↦ λ e. elim (calls.running e) [
        | inl acted ↦ subst L (sym acted.added_is) (λ running. (refl, refl, refl))
        | inr stopped ↦ subst L (sym stopped.1.added_is)
            (λ running. absurd (let x : true ≡ false = running in cc))
      ]
    ] in
    by (is_stopped history) refl

-- so does one that ended the work
pub ended_last : (T : Type 0) {V : Type 0} {q : Asked} (how : V → ActAnswer)
    (given : Result V CallFault) (fault : OutsideFault) {added history : History}
    → Ends q.call given fault → Calls q (answered how given) added history
    → LastFailed {T = T} (Err fault) added history
ended_last T how (Ok value) fault ends calls = absurd ends
ended_last T how (Err Failed) fault {added = added} {history = history} ends calls =
    subst (λ (f : OutsideFault). LastFailed {T = T} (Err f) added history) (sym ends)
    (failed_last T calls)
ended_last T how (Err NoMemory) fault {added = added} {history = history} ends calls =
    subst (λ (f : OutsideFault). LastFailed {T = T} (Err f) added history) (sym ends) tt
ended_last T how (Err Missing) fault ends calls = absurd ends
ended_last T how (Err Exists) fault ends calls = absurd ends
ended_last T how (Err (Short size)) fault ends calls = absurd ends
