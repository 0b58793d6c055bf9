-- A run stays legal.
use Rattle.std.proofs.Common.{◌≡◌, ℕ, List, [], ◌++◌, Option, Some, None, Result, Ok, Err, refl}
use Rattle.chk_site.specs.declared.acts.Role.TheVariants.{Writer}
use Rattle.chk_site.specs.declared.acts.Who.{Who}
use Rattle.chk_site.specs.declared.acts.ActAnswer.{ActAnswer}
use Rattle.chk_site.specs.declared.acts.ActAnswer.TheVariants.{Refused, Stopped}
use Rattle.chk_site.specs.declared.acts.Call.TheVariants.{More}
use Rattle.chk_site.specs.declared.acts.CallFault.{CallFault}
use Rattle.chk_site.specs.declared.acts.CallFault.TheVariants.{Failed, Missing, Exists, Short, NoMemory}
use Rattle.chk_site.specs.declared.acts.OutsideFault.{OutsideFault}
use Rattle.chk_site.specs.declared.suffixes.Taking.{Taking}
use Rattle.chk_site.specs.History.{History, Others}
use Rattle.chk_site.specs.Site.{Adds, Asked, asked, answered, plain, bytes_given, taking_given, Calls, CallsSome}
use Rattle.chk_site.specs.Runs.{Leads}
use Rattle.chk_site.proofs.Leads.{leads_then, leads_none, Keeps, Owned, Shows, call_owned, acted_leads, failed_leads, unmade_leads}
use Rattle.chk_site.proofs.Runs.{adds_as, ran}
use Rattle.chk_world.specs.Rules.{Obeys, Legal}
use Rattle.chk_cmd_output.specs.Printing.{PrintsInTurn, all_printed, unprinted, printed_on, ended, printing}
use Rattle.chk_cmd_output.proofs.Talking.{reading, saying, taking, writer_talks}
use Rattle.chk_cmd_subscribe.specs.declared.Watch.{Watch}
use Rattle.chk_cmd_subscribe.specs.Legality.{IsWatchers, BesideWatcher, StaysLegal}
use Rattle.chk_cmd_subscribe.specs.Watching.{IsReadOn, PrintsMessage}
use Rattle.chk_cmd_subscribe.specs.Runs.{IsTurn, AreTurns, HasSubscribed, taking as taking_at}

module _ (stamped : List (List ℕ)) (who : Who) (is : who.role ≡ Writer) where
  -- from legal to legal
  abbrev Stays : Option History → Option History → Type 0
  Stays old new = Adds old new (Leads (BesideWatcher stamped who) (Legal stamped) (Legal stamped))

  keeps : Keeps (Obeys stamped) (Legal stamped)
  keeps before step theirs obeys legal = (legal, obeys)

  -- a call that the rule allows with each answer
  module _ (q : Asked) (owned : Owned (IsWatchers who) q)
      (shows : (answer : ActAnswer) → Shows (Legal stamped) (Legal stamped) q answer) where
    free : (given : Result ActAnswer CallFault) (added history : History) → Calls q given added history
        → Others (Obeys stamped) added history → Legal stamped history → Legal stamped (added ++ history)
    free (Ok answer) added history calls = acted_leads (Legal stamped) keeps (shows answer) (ran (Ok answer) (λ e. cc) calls)
    free (Err Failed) added history calls =
        failed_leads (Legal stamped) keeps (shows (Refused Failed)) (λ left. shows (Stopped left)) (λ before e legal. legal) calls
    free (Err NoMemory) added history calls = unmade_leads (Legal stamped) keeps (λ before legal. legal) calls
    free (Err Missing) added history calls = acted_leads (Legal stamped) keeps (shows (Refused Missing)) (ran (Err Missing) (λ e. cc) calls)
    free (Err Exists) added history calls = acted_leads (Legal stamped) keeps (shows (Refused Exists)) (ran (Err Exists) (λ e. cc) calls)
    free (Err (Short size)) added history calls =
        acted_leads (Legal stamped) keeps (shows (Refused (Short size))) (ran (Err (Short size)) (λ e. cc) calls)

    calls_lead : (given : Result ActAnswer CallFault) (added history : History) → Calls q given added history
        → Leads (BesideWatcher stamped who) (Legal stamped) (Legal stamped) added history
    calls_lead given added history calls = record {
      leads = free given added history calls;
      own = call_owned (IsWatchers who) given owned calls;
    }

  me : who ≡ record { role = Writer; name = who.name }
  me = λ i. record { role = is i; name = who.name }

  take_stays : (door : List ℕ) (given : Result (Option Taking) CallFault) {old new : Option History}
      → Adds old new (CallsSome (λ of. taking_at who door) (λ of. answered (taking_given of) given)) → Stays old new
  take_stays door given call =
      adds_as (Leads (BesideWatcher stamped who) (Legal stamped) (Legal stamped)) call
      (λ a h calls. calls_lead (taking_at who door)
      (λ before answer files logs running. record { by = refl; running = running; does = tt })
      (λ answer before files logs running honest legal.
      (legal, writer_talks stamped who.name before _ me (taking door 1000) tt honest))
      (answered (taking_given calls.0) given) a h calls.1)

  more_stays : (t : ℕ) (given : Result (List ℕ) CallFault) {old new : Option History}
      → Adds old new (Calls (asked who More [] t 0) (answered bytes_given given)) → Stays old new
  more_stays t given call =
      adds_as (Leads (BesideWatcher stamped who) (Legal stamped) (Legal stamped)) call
      (λ a h calls. calls_lead (asked who More [] t 0)
      (λ before answer files logs running. record { by = refl; running = running; does = tt })
      (λ answer before files logs running honest legal.
      (legal, writer_talks stamped who.name before _ me (reading t) tt honest))
      (answered bytes_given given) a h calls)

  say_stays : (line : List ℕ) (given : Result (Unit {0}) CallFault) {old new : Option History}
      → Adds old new (Calls (printing who line) (answered plain given)) → Stays old new
  say_stays line given said =
      adds_as (Leads (BesideWatcher stamped who) (Legal stamped) (Legal stamped)) said
      (λ a h calls. calls_lead (printing who line)
      (λ before answer files logs running. record { by = refl; running = running; does = tt })
      (λ answer before files logs running honest legal.
      (legal, writer_talks stamped who.name before _ me (saying line) tt honest))
      (answered plain given) a h calls)

  prints_stay : {lines : List (List ℕ)} {result : Result (Unit {0}) OutsideFault} {old new : Option History}
      → PrintsInTurn who lines result old new → Stays old new
  prints_stay all_printed = leads_none _ (λ h legal. legal)
  prints_stay unprinted = leads_none _ (λ h legal. legal)
  prints_stay (printed_on {line = line} single said rest) = leads_then (say_stays line (Ok tt) said) (prints_stay rest)
  prints_stay (ended {line = line} given single ends said) = say_stays line given said

  read_stays : {t : ℕ} {bytes : List ℕ} {got : Result (List ℕ) OutsideFault} {old new : Option History}
      → IsReadOn who t bytes got old new → Stays old new
  read_stays (IsReadOn.whole long) = leads_none _ (λ h legal. legal)
  read_stays {t = t} (IsReadOn.over short call) = more_stays t (Ok []) call
  read_stays {t = t} (IsReadOn.came piece short some call rest) = leads_then (more_stays t (Ok piece) call) (read_stays rest)
  read_stays {t = t} (IsReadOn.unread given short ends call) = more_stays t given call
  read_stays {t = t} (IsReadOn.unkept piece short call) = more_stays t (Ok piece) call

  message_stays : {bytes : List ℕ} {w v : Watch} {result : Result (Unit {0}) OutsideFault} {old new : Option History}
      → PrintsMessage who bytes w result v old new → Stays old new
  message_stays (PrintsMessage.refused fault e) = leads_none _ (λ h legal. legal)
  message_stays PrintsMessage.uncounted = leads_none _ (λ h legal. legal)
  message_stays (PrintsMessage.printed items tee prints) = prints_stay prints.prints

  turn_stays : {door : List ℕ} {w v : Watch} {result : Result (Unit {0}) OutsideFault} {old new : Option History}
      → IsTurn who door w result v old new → Stays old new
  turn_stays {door = door} (IsTurn.nothing call) = take_stays door (Ok None) call
  turn_stays {door = door} (IsTurn.untaken given ends call) = take_stays door given call
  turn_stays {door = door} (IsTurn.unread t call read) = leads_then (take_stays door (Ok (Some t)) call) (read_stays read)
  turn_stays {door = door} (IsTurn.message t bytes call read prints) =
      leads_then (take_stays door (Ok (Some t)) call) (leads_then (read_stays read) (message_stays prints))

  turns_stay : {door : List ℕ} {n : ℕ} {w v : Watch} {result : Result (Unit {0}) OutsideFault} {old new : Option History}
      → AreTurns who door n w result v old new → Stays old new
  turns_stay AreTurns.over = leads_none _ (λ h legal. legal)
  turns_stay (AreTurns.turned one rest) = leads_then (turn_stays one) (turns_stay rest)
  turns_stay (AreTurns.ended one) = turn_stays one

  run_stays : {door : List ℕ} {turns : ℕ} {result : Result (Unit {0}) OutsideFault} {old new : Option History}
      → HasSubscribed who door turns result old new → Stays old new
  run_stays (HasSubscribed.broken turns) = turns_stay turns
  run_stays (HasSubscribed.unwritten turns) = turns_stay turns
  run_stays (HasSubscribed.told turns prints) = leads_then (turns_stay turns) (prints_stay prints)

-- a run goes on legally
pub run_legal : (who : Who) {door : List ℕ} {turns : ℕ} {result : Result (Unit {0}) OutsideFault} {old new : Option History}
    → who.role ≡ Writer → HasSubscribed who door turns result old new → StaysLegal who old new
run_legal who is ran stamped = run_stays stamped who is ran
