-- What each step that calls add has, and which one comes last.
use Rattle.std.proofs.Common.{◌≡◌, inl, inr, Bool, true, false, List, [], ◌∷◌, ◌++◌, Ok, Err, Option, Result, refl, sym, subst, append_assoc}
use Rattle.chk_site.specs.declared.acts.Call.{Call}
use Rattle.chk_site.specs.declared.acts.OutsideFault.{OutsideFault}
use Rattle.chk_site.specs.declared.acts.OutsideFault.TheVariants.{Outside, NoMemory as no_memory}
use Rattle.chk_site.specs.declared.acts.CallFault.{CallFault}
use Rattle.chk_site.specs.declared.acts.CallFault.TheVariants.{Failed, Missing, Exists, Short, NoMemory}
use Rattle.chk_site.specs.declared.acts.ActAnswer.{ActAnswer}
use Rattle.chk_site.specs.Files.{Files}
use Rattle.chk_site.specs.Logs.{Logs}
use Rattle.chk_site.specs.History.{Step, History, Every, IsTheirs, is_stopped}
use Rattle.chk_site.specs.Honest.{Honest}
use Rattle.chk_site.specs.Site.{Adds, Asked, own_step, answered, plain, Acted, Added, Calls, Ends, EndsIn, LastFailed}
use Rattle.chk_site.specs.Runs.{MadeInTurn, finished, unbegun, went_on, ended}
use Rattle.chk_site.proofs.Runs.{adds_then, adds_as, adds_none, every_join}
use Rattle.chk_site.proofs.Leads.{theirs_run}
use Rattle.chk_site.proofs.LastCalls.{ends_in_both, last_of_both as last_then, failed_last}
use Rattle.chk_site.proofs.LastCalls.{ended_last as ends_last}

-- P holds of each step of others
abbrev pub OfOthers : (History → Step → Type 0) → Type 0
OfOthers P = (before : History) (step : Step) → IsTheirs before step → P before step

-- P holds of the call's own step, whatever it answers
abbrev pub OfOwn : (History → Step → Type 0) → Asked → Type 0
OfOwn P q =
    (before : History) (answer : ActAnswer) (files : Files) (logs : Logs) → is_stopped before ≡ false
    → Honest before (own_step q answer files logs) → P before (own_step q answer files logs)

-- the same of each call of a script
abbrev pub OfEach : (History → Step → Type 0) → List Asked → Type 0
OfEach P [] = Unit {0}
OfEach P (q ∷ qs) = OfOwn P q × OfEach P qs

theirs_each : (P : History → Step → Type 0) (added history : History) → OfOthers P → Every IsTheirs added history → Every P added history
theirs_each P [] history others theirs = tt
theirs_each P (step ∷ added) history others theirs =
    (theirs_each P added history others theirs.0, others (added ++ history) step theirs.1)

acted_each : (P : History → Step → Type 0) {q : Asked} {answer : ActAnswer} {added history : History}
    → OfOthers P → OfOwn P q → Acted q answer added history → Every P added history
acted_each P {answer = answer} {history = history} others own acted =
    subst (λ (a : History). Every P a history) (sym acted.added_is) (
      theirs_each P acted.others history others acted.theirs,
      own (acted.others ++ history) answer acted.files acted.logs
          (theirs_run acted.others history acted.theirs acted.running) acted.honest,
    )

added_each : (P : History → Step → Type 0) {q : Asked} (r : Result ActAnswer CallFault) (added history : History)
    → OfOthers P → OfOwn P q → Added q r added history → Every P added history
added_each P (Ok answer) added history others own acted = acted_each P others own acted
added_each P (Err NoMemory) added history others own theirs = theirs_each P added history others theirs
added_each P (Err Failed) added history others own (inl acted) = acted_each P others own acted
added_each P (Err Failed) added history others own (inr stopped) = acted_each P others own stopped.1
added_each P (Err Missing) added history others own acted = acted_each P others own acted
added_each P (Err Exists) added history others own acted = acted_each P others own acted
added_each P (Err (Short size)) added history others own acted = acted_each P others own acted

-- each step that a call adds
pub call_each : (P : History → Step → Type 0) {q : Asked} (r : Result ActAnswer CallFault) {added history : History}
    → OfOthers P → OfOwn P q → Calls q r added history → Every P added history
call_each P {q = q} r {added = added} {history = history} others own calls =
    let by : (b : Bool) → is_stopped history ≡ b → Every P added history =
    λ b. elim b as (λ b. is_stopped history ≡ b → Every P added history) [
      | true ↦ λ e. subst (λ (a : History). Every P a history) (sym (calls.stopped e).0) tt
      | false ↦ λ e. added_each P r added history others own (calls.running e)
    ] in
    by (is_stopped history) refl

-- each step that a script adds
pub script_each : (P : History → Step → Type 0) {qs : List Asked} {result : Result (Unit {0}) OutsideFault} {old new : Option History}
    → OfOthers P → OfEach P qs → MadeInTurn qs result old new → Adds old new (Every P)
script_each P others own finished = adds_none _ (Every P) (λ history. tt)
script_each P others own unbegun = adds_none _ (Every P) (λ history. tt)
script_each P others own (went_on given is told script) =
    adds_then (Every P) (adds_as (Every P) told (λ a history calls. call_each P (answered plain given) others own.0 calls))
    (script_each P others own.1 script)
    (λ a b history p q. every_join P b a history p q)
script_each P others own (ended given ends told) =
    adds_as (Every P) told (λ a history calls. call_each P (answered plain given) others own.0 calls)

-- the last step of a script
pub script_last : {qs : List Asked} {result : Result (Unit {0}) OutsideFault} {old new : Option History}
    → MadeInTurn qs result old new → Adds old new (LastFailed result)
script_last finished = adds_none _ (LastFailed (Ok (tt {0}))) (λ history. tt)
script_last unbegun = adds_none _ (LastFailed {T = Unit {0}} (Err no_memory)) (λ history. tt)
script_last {result = result} (went_on given is told script) =
    adds_then (LastFailed result) told (script_last script) (λ a b history calls last. last_then result b a history last)
script_last (ended {fault = fault} given ends told) =
    adds_as (LastFailed {T = Unit {0}} (Err fault)) told (λ a history calls. ends_last (Unit {0}) plain given fault ends calls)
