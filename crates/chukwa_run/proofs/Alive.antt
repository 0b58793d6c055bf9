-- That the site wasn't stopped, behind calls that were done.
use Rattle.std.proofs.Common.{◌≡◌, false, [], ◌++◌, Option, Some, None, Result, Ok, Err, refl, sym, subst}
use Rattle.std.proofs.lemmas.List.{append_cancel_right}
use Rattle.std.proofs.lemmas.Option.{same_Some}
use Rattle.chk_site.specs.declared.acts.Who.{Who}
use Rattle.chk_site.specs.declared.acts.CallFault.{CallFault}
use Rattle.chk_site.specs.declared.acts.CallFault.TheVariants.{Failed, Missing, Exists, Short, NoMemory}
use Rattle.chk_site.specs.declared.acts.ActAnswer.{ActAnswer}
use Rattle.chk_site.specs.declared.acts.ActAnswer.TheVariants.{Refused}
use Rattle.chk_site.specs.declared.acts.OutsideFault.{OutsideFault}
use Rattle.chk_site.specs.Acts.{Deed, is_stop}
use Rattle.chk_site.specs.History.{History, is_stopped}
use Rattle.chk_site.specs.Site.{Adds, Asked, Acted, Calls}
use Rattle.chk_site.specs.Runs.{HasStarted}
use Rattle.chk_site.proofs.Runs.{ran}
use Rattle.chk_world.specs.Works.{Works, rests, unbegun, works, ends, WentOn}
use Rattle.chk_cmd_salvage.proofs.Running.{done_goes}

-- where a history is told, the site isn't stopped
abbrev pub Alive : Option History → Type 0
Alive None = Unit {0}
Alive (Some history) = is_stopped history ≡ false

acted_alive : {q : Asked} (answer : ActAnswer) {added history : History} → is_stop answer ≡ false
    → Acted q answer added history → is_stopped (added ++ history) ≡ false
acted_alive answer {history = history} goes acted =
    subst (λ (a : History). is_stopped (a ++ history) ≡ false) (sym acted.added_is) goes

went_alive : {q : Asked} (given : Result ActAnswer CallFault) {added history : History} → WentOn given
    → Calls q given added history → is_stopped (added ++ history) ≡ false
went_alive (Ok answer) went calls = acted_alive answer (done_goes answer went) (ran (Ok answer) (λ e. cc) calls)
went_alive (Err Failed) went calls = absurd went
went_alive (Err NoMemory) went calls = absurd went
went_alive (Err Missing) went calls = acted_alive (Refused Missing) refl (ran (Err Missing) (λ e. cc) calls)
went_alive (Err Exists) went calls = acted_alive (Refused Exists) refl (ran (Err Exists) (λ e. cc) calls)
went_alive (Err (Short size)) went calls = acted_alive (Refused (Short size)) refl (ran (Err (Short size)) (λ e. cc) calls)

-- behind a call that was done, or refused for the state of the files
pub call_alive : {q : Asked} (given : Result ActAnswer CallFault) {old new : Option History} → WentOn given
    → Adds old new (Calls q given) → Alive new
call_alive given {old = None} {new = new} went told = subst Alive (sym (told.untold refl)) tt
call_alive given {old = Some history} {new = new} went told =
    let t = told.told history refl in
    subst Alive (sym t.1) (went_alive given went t.2)

-- behind work that came to its end, where it was so before
pub works_alive : {who : Who} {P : Deed → Type 0} {fault : Option OutsideFault} {old new : Option History} → Works who P fault old new
    → fault ≡ None → Alive old → Alive new
works_alive rests is alive = alive
works_alive unbegun is alive = absurd (cc)
works_alive (works q given by allowed went told rest) is alive = works_alive rest is (call_alive given went told)
works_alive (ends q given by allowed ended told) is alive = absurd (cc)

nothing_added : (added history : History) → Some history ≡ Some (added ++ history) → added ≡ []
nothing_added added history e =
    append_cancel_right added [] history (sym (same_Some history (added ++ history) e))

no_start : (who : Who) (now : Option History) → Adds now now (HasStarted who) → Alive now
no_start who None told = tt
no_start who (Some history) told =
    let t = told.told history refl in
    absurd (subst (λ (a : History). HasStarted who a history) (nothing_added t.0 history t.1) t.2)

-- behind a start that came to its end
pub start_alive : {who : Who} {P : Deed → Type 0} {old new : Option History} → Works who P None old new
    → Adds old new (HasStarted who) → Alive new
start_alive {who = who} rests started = no_start who _ started
start_alive (works q given by allowed went told rest) started = works_alive rest refl (call_alive given went told)
