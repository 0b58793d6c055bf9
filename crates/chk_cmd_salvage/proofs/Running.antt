-- That the site wasn't stopped, after calls that were done.
use Rattle.std.proofs.Common.{◌≡◌, ℕ, true, false, List, [], ◌∷◌, ◌++◌, Ok, Err, Option, Result, refl, sym, subst, append_assoc}
use Rattle.std.specs.Prelude.{MatchResult, OnOk}
use Rattle.chk_site.specs.declared.acts.Who.{Who}
use Rattle.chk_site.specs.declared.acts.Call.TheVariants.{Say}
use Rattle.chk_site.specs.declared.acts.OutsideFault.{OutsideFault}
use Rattle.chk_site.specs.declared.acts.OutsideFault.TheVariants.{Outside as OutsideCall, NoMemory as no_memory}
use Rattle.chk_site.specs.declared.acts.CallFault.{CallFault}
use Rattle.chk_site.specs.declared.acts.CallFault.TheVariants.{Failed, Missing, Exists, Short, NoMemory}
use Rattle.chk_site.specs.declared.acts.ActAnswer.{ActAnswer}
use Rattle.chk_site.specs.declared.acts.ActAnswer.TheVariants.{Done, Refused, Stopped, Rotated, Deleted}
use Rattle.chk_site.specs.Acts.{is_stop}
use Rattle.chk_site.specs.History.{History, is_stopped}
use Rattle.chk_site.specs.Site.{Adds, Asked, answered, plain, bytes_given, Acted, Calls, IsDone, Ends, WasDone}
use Rattle.chk_site.proofs.Runs.{adds_then, adds_as, adds_none, ran, done_answer}
use Rattle.chk_replace.specs.Load.{Came, ReadOnce, ReadInTurn, gone, at_end, ended, unkept, went_on}
use Rattle.chk_cmd_salvage.specs.Printing.{GoesOnRunning, EndsRunning, salvage_fault}
use Rattle.chk_cmd_salvage.specs.declared.fault.SalvageFault.TheVariants.{Outside, NoMemory as NoMemoryLeft, Damaged}
use Rattle.chk_cmd_salvage.proofs.Printed.{say_of}

-- the site isn't stopped now
abbrev pub Running : History → History → Type 0
Running added history = is_stopped (added ++ history) ≡ false

acted_runs : {q : Asked} (answer : ActAnswer) {added history : History} → is_stop answer ≡ false
    → Acted q answer added history → Running added history
acted_runs answer {history = history} goes acted =
    subst (λ (a : History). is_stopped (a ++ history) ≡ false) (sym acted.added_is) goes

pub done_goes : (answer : ActAnswer) → WasDone answer → is_stop answer ≡ false
done_goes (Done words number of) done = refl
done_goes (Refused fault) done = refl
done_goes (Stopped left) done = elim done [ ]
done_goes (Rotated suffix) done = refl
done_goes (Deleted suffix) done = refl

-- a read that was taken for something
read_runs : {who : Who} {name : List ℕ} {at : ℕ} {given : Option (List ℕ)} {old new : Option History}
    → ReadOnce who name at (Ok given) old new → Adds old new Running
read_runs {given = given} read = go given read.given read.came read.told
  where
    go : {q : Asked} {old new : Option History} (v : Option (List ℕ)) (r : Result (List ℕ) CallFault) → Came r (Ok v)
        → Adds old new (Calls q (answered bytes_given r)) → Adds old new Running
    go v (Ok piece) came told = adds_as Running told (λ a h calls. acted_runs (bytes_given piece) refl (ran (Ok (bytes_given piece)) (λ e. cc) calls))
    go v (Err Missing) came told = adds_as Running told (λ a h calls. acted_runs (Refused Missing) refl (ran (Err Missing) (λ e. cc) calls))
    go v (Err (Short size)) came told = adds_as Running told (λ a h calls. acted_runs (Refused (Short size)) refl (ran (Err (Short size)) (λ e. cc) calls))
    go v (Err Failed) came told = absurd (cc)
    go v (Err NoMemory) came told = absurd (cc)
    go v (Err Exists) came told = absurd came

-- a file that was read whole
pub load_runs : {who : Who} {name bytes : List ℕ} {given : Option (List ℕ)} {old new : Option History}
    → ReadInTurn who name bytes (Ok given) old new → Adds old new Running
load_runs script = go script refl
  where
    go : {who : Who} {name bytes : List ℕ} {given : Option (List ℕ)} {result : Result (Option (List ℕ)) OutsideFault} {old new : Option History}
        → ReadInTurn who name bytes result old new → result ≡ Ok given → Adds old new Running
    go (gone read) is = read_runs read
    go (at_end read) is = read_runs read
    go (ended read) is = absurd (cc)
    go (unkept piece read) is = absurd (cc)
    go (went_on piece read rest) is =
        adds_then Running (read_runs read) (go rest is)
        (λ a b history x y. subst (λ (h : History). is_stopped h ≡ false) (sym (append_assoc b a history)) y)

-- a print that was done
pub print_runs : (who : Who) (text : List ℕ) (given : Result (Unit {0}) CallFault) (result : Result (Unit {0}) OutsideFault) {old new : Option History}
    → MatchResult result (λ _. IsDone given) (λ fault. Ends Say given fault)
    → Adds old new (Calls (say_of who text) (answered plain given)) → OnOk result (Adds old new GoesOnRunning)
print_runs who text given (Err fault) done told = tt
print_runs who text given (Ok value) done told =
    adds_as GoesOnRunning told
    (λ a h calls running. let acted = done_answer given done calls in acted_runs acted.0 (done_goes acted.0 acted.1) acted.2)

-- what goes on, one after the other
pub runs_then : {old mid new : Option History} → Adds old mid GoesOnRunning → Adds mid new GoesOnRunning → Adds old new GoesOnRunning
runs_then p q =
    adds_then GoesOnRunning p q
    (λ a b history x y running. subst (λ (h : History). is_stopped h ≡ false) (sym (append_assoc b a history)) (y (x running)))

-- after a read it goes on
pub then_runs : {old mid new : Option History} → Adds old mid Running → Adds mid new GoesOnRunning → Adds old new (EndsRunning (Ok tt))
then_runs p q =
    adds_then (EndsRunning (Ok tt)) p q
    (λ a b history x y. subst (λ (h : History). is_stopped h ≡ false) (sym (append_assoc b a history)) (y x))

pub none_goes_on : (now : Option History) → Adds now now GoesOnRunning
none_goes_on now = adds_none now GoesOnRunning (λ history running. running)

pub as_damaged : {old new : Option History} → Adds old new Running → Adds old new (EndsRunning (Err Damaged))
as_damaged p = p

pub then_on_ok : (result : Result (Unit {0}) OutsideFault) {old mid : Option History} (new : Option History) → Adds old mid GoesOnRunning
    → OnOk result (Adds mid new GoesOnRunning) → OnOk result (Adds old new GoesOnRunning)
then_on_ok (Ok value) new p q = runs_then p q
then_on_ok (Err fault) new p q = tt

-- an end by a call, or for want of memory
pub ends_runs : (fault : OutsideFault) {P : History → History → Type 0} {old new : Option History} → Adds old new P
    → Adds old new (EndsRunning (Err (salvage_fault fault)))
ends_runs (OutsideCall call) told = adds_as (EndsRunning (Err (Outside call))) told (λ a h x. tt)
ends_runs no_memory told = adds_as (EndsRunning (Err NoMemoryLeft)) told (λ a h x. tt)
