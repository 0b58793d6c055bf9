-- The call that failed is the last one.
use Rattle.std.proofs.Common.{ℕ, List, [], Option, Result, Ok, Err}
use Rattle.chk_site.specs.declared.acts.OutsideFault.{OutsideFault}
use Rattle.chk_site.specs.declared.acts.OutsideFault.TheVariants.{Outside, NoMemory as no_memory}
use Rattle.chk_site.specs.declared.acts.Call.TheVariants.{More}
use Rattle.chk_site.specs.declared.acts.Who.{Who}
use Rattle.chk_site.specs.History.{History}
use Rattle.chk_site.specs.Site.{Adds, asked, bytes_given, plain, taking_given, LastFailed}
use Rattle.chk_site.proofs.Runs.{adds_then, adds_as, adds_none}
use Rattle.chk_site.proofs.LastCalls.{last_of_both, ended_last}
use Rattle.chk_cmd_output.specs.Printing.{PrintsInTurn, all_printed, unprinted, printed_on, ended, printing}
use Rattle.chk_cmd_subscribe.specs.declared.Watch.{Watch}
use Rattle.chk_cmd_subscribe.specs.Watching.{IsReadOn, PrintsMessage}
use Rattle.chk_cmd_subscribe.specs.Runs.{IsTurn, AreTurns, HasSubscribed, taking}

last_then : {T : Type 0} (result : Result T OutsideFault) {P : History → History → Type 0} {old mid new : Option History}
    → Adds old mid P → Adds mid new (LastFailed result) → Adds old new (LastFailed result)
last_then result p q = adds_then (LastFailed result) p q (λ a b history x y. last_of_both result b a history y)

-- the same fault of another result
other_last : (T U : Type 0) (fault : OutsideFault) (added history : History) → LastFailed {T = T} (Err fault) added history
    → LastFailed {T = U} (Err fault) added history
other_last T U (Outside call) added history last = last
other_last T U no_memory added history last = tt

fine : (now : Option History) → Adds now now (LastFailed {T = Unit {0}} (Ok tt))
fine now = adds_none now (LastFailed {T = Unit {0}} (Ok tt)) (λ h. tt)

unmade : (T : Type 0) (now : Option History) → Adds now now (LastFailed {T = T} (Err no_memory))
unmade T now = adds_none now (LastFailed {T = T} (Err no_memory)) (λ h. tt)

prints_last : {who : Who} {lines : List (List ℕ)} {result : Result (Unit {0}) OutsideFault} {old new : Option History}
    → PrintsInTurn who lines result old new → Adds old new (LastFailed result)
prints_last all_printed = fine _
prints_last unprinted = unmade (Unit {0}) _
prints_last {result = result} (printed_on one said rest) = last_then result said (prints_last rest)
prints_last {who = who} (ended {line = line} {fault = fault} given one ends said) =
    adds_as (LastFailed {T = Unit {0}} (Err fault)) said
    (λ a h calls. ended_last (Unit {0}) {q = printing who line} plain given fault ends calls)

reads_last : {who : Who} {t : ℕ} {bytes : List ℕ} {got : Result (List ℕ) OutsideFault} {old new : Option History}
    → IsReadOn who t bytes got old new → Adds old new (LastFailed got)
reads_last (IsReadOn.whole {bytes = bytes} long) = adds_none _ (LastFailed {T = List ℕ} (Ok bytes)) (λ h. tt)
reads_last (IsReadOn.over {bytes = bytes} short call) = adds_as (LastFailed {T = List ℕ} (Ok bytes)) call (λ a h x. tt)
reads_last {got = got} (IsReadOn.came piece short some call rest) = last_then got call (reads_last rest)
reads_last {who = who} {t = t} (IsReadOn.unread {fault = fault} given short ends call) =
    adds_as (LastFailed {T = List ℕ} (Err fault)) call
    (λ a h calls. ended_last (List ℕ) {q = asked who More [] t 0} bytes_given given fault ends calls)
reads_last (IsReadOn.unkept piece short call) = adds_as (LastFailed {T = List ℕ} (Err no_memory)) call (λ a h x. tt)

message_last : {who : Who} {bytes : List ℕ} {w v : Watch} {result : Result (Unit {0}) OutsideFault} {old new : Option History}
    → PrintsMessage who bytes w result v old new → Adds old new (LastFailed result)
message_last (PrintsMessage.refused fault is) = fine _
message_last PrintsMessage.uncounted = unmade (Unit {0}) _
message_last (PrintsMessage.printed items tee prints) = prints_last prints.prints

turn_last : {who : Who} {door : List ℕ} {w v : Watch} {result : Result (Unit {0}) OutsideFault} {old new : Option History}
    → IsTurn who door w result v old new → Adds old new (LastFailed result)
turn_last (IsTurn.nothing call) = adds_as (LastFailed {T = Unit {0}} (Ok tt)) call (λ a h x. tt)
turn_last {who = who} {door = door} (IsTurn.untaken {fault = fault} given ends call) =
    adds_as (LastFailed {T = Unit {0}} (Err fault)) call
    (λ a h calls. ended_last (Unit {0}) {q = taking who door} (taking_given calls.0) given fault ends calls.1)
turn_last (IsTurn.unread {fault = fault} t call read) =
    last_then {T = Unit {0}} (Err fault) call
    (adds_as (LastFailed {T = Unit {0}} (Err fault)) (reads_last read) (λ a h x. other_last (List ℕ) (Unit {0}) fault a h x))
turn_last {result = result} (IsTurn.message t bytes call read prints) =
    last_then result call (last_then result (reads_last read) (message_last prints))

turns_last : {who : Who} {door : List ℕ} {n : ℕ} {w v : Watch} {result : Result (Unit {0}) OutsideFault} {old new : Option History}
    → AreTurns who door n w result v old new → Adds old new (LastFailed result)
turns_last AreTurns.over = fine _
turns_last {result = result} (AreTurns.turned one rest) = last_then result (turn_last one) (turns_last rest)
turns_last (AreTurns.ended one) = turn_last one

pub run_last : {who : Who} {door : List ℕ} {turns : ℕ} {result : Result (Unit {0}) OutsideFault} {old new : Option History}
    → HasSubscribed who door turns result old new → Adds old new (LastFailed result)
run_last (HasSubscribed.broken turns) = turns_last turns
run_last (HasSubscribed.unwritten turns) =
    adds_as (LastFailed {T = Unit {0}} (Err no_memory)) (turns_last turns) (λ a h x. tt)
run_last {result = result} (HasSubscribed.told turns prints) = last_then result (turns_last turns) (prints_last prints)
