-- A run stays legal.
use Rattle.std.proofs.Common.{◌≡◌, inl, inr, ℕ, Bool, List, [], ◌∷◌, ◌++◌, Option, Some, None, Result, Ok, Err, subst, refl, ◌∙◌}
use Rattle.chk_site.specs.declared.acts.Role.TheVariants.{Writer}
use Rattle.chk_site.specs.declared.acts.Who.{Who}
use Rattle.chk_site.specs.declared.acts.ActAnswer.{ActAnswer}
use Rattle.chk_site.specs.declared.acts.ActAnswer.TheVariants.{Refused, Stopped}
use Rattle.chk_site.specs.declared.acts.Call.TheVariants.{Take}
use Rattle.chk_site.specs.declared.acts.CallFault.{CallFault}
use Rattle.chk_site.specs.declared.acts.CallFault.TheVariants.{Failed, Missing, Exists, Short, NoMemory}
use Rattle.chk_site.specs.declared.acts.OutsideFault.{OutsideFault}
use Rattle.chk_site.specs.declared.suffixes.Taking.{Taking}
use Rattle.chk_site.specs.History.{History, Others}
use Rattle.chk_site.specs.Site.{Adds, Asked, asked, answered, plain, taking_given, Calls}
use Rattle.chk_site.specs.Runs.{Leads}
use Rattle.chk_site.proofs.Leads.{leads_then, leads_none, Keeps, Owned, Shows, call_owned, acted_leads, failed_leads, unmade_leads}
use Rattle.chk_site.proofs.Runs.{adds_as, ran}
use Rattle.chk_world.specs.Places.{IsBy}
use Rattle.chk_world.specs.Rules.{Obeys, Legal}
use Rattle.chk_world.proofs.Beside.{owns_as}
use Rattle.chk_wahead.specs.declared.fault.WaheadFault.{WaheadFault}
use Rattle.chk_wahead.specs.Legality.{StaysLegal}
use Rattle.chk_wahead.specs.Scripts.{Puts}
use Rattle.chk_wahead.specs.States.{State}
use Rattle.chk_wahead.proofs.Staying.{start_legal, put_legal, commit_legal, close_legal}
use Rattle.chk_cmd_output.specs.Printing.{PrintsInTurn, all_printed, unprinted, printed_on, ended, printing}
use Rattle.chk_cmd_output.proofs.Talking.{saying, taking, writer_talks}
use Rattle.chk_cmd_udp.specs.declared.tally.Tally.{Tally}
use Rattle.chk_cmd_udp.specs.Takings.{TakesOnce, Further, enough, full, none, one, Gathers}
use Rattle.chk_cmd_udp.specs.Turns.{Commits, Closes, Settles, uncommitted, kept, closed, IsTurn}
use Rattle.chk_cmd_udp.specs.Runs.{AreTurned, over, turn, Finishes, unclosed, told, GoesOn, finished, HasRun, unstarted, started}
use Rattle.chk_cmd_udp.specs.Legality.{IsByEither, BesideBoth, GoesOnLegal}
use Rattle.chk_cmd_udp.proofs.Keeping.{put_same, done_same}
use Rattle.chk_cmd_udp.proofs.Gathering.{gathers_same}
use Rattle.chk_cmd_udp.proofs.Turning.{turn_same}
use Rattle.chk_cmd_udp.proofs.Starting.{begun}

module _ (stamped : List (List ℕ)) (who writer : Who) (is : who.role ≡ Writer)
    (is_writer : writer.role ≡ Writer) where
  -- from legal to legal
  abbrev Stays : Option History → Option History → Type 0
  Stays old new = Adds old new (Leads (BesideBoth stamped who writer) (Legal stamped)
      (Legal stamped))

  keeps : Keeps (Obeys stamped) (Legal stamped)
  keeps before step theirs obeys legal = (legal, obeys)

  -- a call that the rule allows with each answer
  module _ (q : Asked) (owned : Owned (IsByEither who writer) q)
      (shows : (answer : ActAnswer) → Shows (Legal stamped) (Legal stamped) q answer) where
    free : (given : Result ActAnswer CallFault) (added history : History)
        → Calls q given added history
        → Others (Obeys stamped) added history → Legal stamped history
        → Legal stamped (added ++ history)
    free (Ok answer) added history calls = acted_leads (Legal stamped) keeps (shows answer)
        (ran (Ok answer) (λ e. cc) calls)
    free (Err Failed) added history calls =
        failed_leads (Legal stamped) keeps (shows (Refused Failed)) (λ left. shows (Stopped left))
        (λ before e legal. legal) calls
    free (Err NoMemory) added history calls = unmade_leads (Legal stamped) keeps
        (λ before legal. legal) calls
    free (Err Missing) added history calls = acted_leads (Legal stamped) keeps
        (shows (Refused Missing)) (ran (Err Missing) (λ e. cc) calls)
    free (Err Exists) added history calls = acted_leads (Legal stamped) keeps
        (shows (Refused Exists)) (ran (Err Exists) (λ e. cc) calls)
    free (Err (Short size)) added history calls =
        acted_leads (Legal stamped) keeps (shows (Refused (Short size)))
        (ran (Err (Short size)) (λ e. cc) calls)

    calls_lead : (given : Result ActAnswer CallFault) (added history : History)
        → Calls q given added history
        → Leads (BesideBoth stamped who writer) (Legal stamped) (Legal stamped) added history
    calls_lead given added history calls = record {
      leads = free given added history calls;
      own = call_owned (IsByEither who writer) given owned calls;
    }

  me : who ≡ record { role = Writer; name = who.name }
  me = λ i. record { role = is i; name = who.name }

  it : writer ≡ record { role = Writer; name = writer.name }
  it = λ i. record { role = is_writer i; name = writer.name }

  take_stays : (door : List ℕ) (wait : ℕ) (result : Result (Option Taking) OutsideFault)
      {old new : Option History}
      → TakesOnce who door wait result old new → Stays old new
  take_stays door wait (Ok given) call =
      adds_as (Leads (BesideBoth stamped who writer) (Legal stamped) (Legal stamped)) call
      (λ a h calls. calls_lead (asked who Take (door ∷ []) wait 0)
      (λ before answer files logs running. record { by = inl refl; running = running })
      (λ answer before files logs running honest legal.
      (legal, writer_talks stamped who.name before _ me (taking door wait) tt honest))
      (answered (taking_given calls.0) (Ok given)) a h calls.1)
  take_stays door wait (Err fault) (given, ends, call) =
      adds_as (Leads (BesideBoth stamped who writer) (Legal stamped) (Legal stamped)) call
      (λ a h calls. calls_lead (asked who Take (door ∷ []) wait 0)
      (λ before answer files logs running. record { by = inl refl; running = running })
      (λ answer before files logs running honest legal.
      (legal, writer_talks stamped who.name before _ me (taking door wait) tt honest))
      (answered (taking_given calls.0) given) a h calls.1)

  say_stays : (line : List ℕ) (given : Result (Unit {0}) CallFault) {old new : Option History}
      → Adds old new (Calls (printing writer line) (answered plain given)) → Stays old new
  say_stays line given said =
      adds_as (Leads (BesideBoth stamped who writer) (Legal stamped) (Legal stamped)) said
      (λ a h calls. calls_lead (printing writer line)
      (λ before answer files logs running. record { by = inr refl; running = running })
      (λ answer before files logs running honest legal.
      (legal, writer_talks stamped writer.name before _ it (saying line) tt honest))
      (answered plain given) a h calls)

  prints_stay : {lines : List (List ℕ)} {result : Result (Unit {0}) OutsideFault}
      {old new : Option History}
      → PrintsInTurn writer lines result old new → Stays old new
  prints_stay all_printed = leads_none _ (λ h legal. legal)
  prints_stay unprinted = leads_none _ (λ h legal. legal)
  prints_stay (printed_on {line = line} single said rest) = leads_then (say_stays line (Ok tt) said)
      (prints_stay rest)
  prints_stay (ended {line = line} given single ends said) = say_stays line given said

  -- ---- the calls of the buffers

  either : {old new : Option History} → StaysLegal who old new → Stays old new
  either stays =
      adds_as (Leads (BesideBoth stamped who writer) (Legal stamped) (Legal stamped))
      (stays is stamped)
      (λ a h x. record {
        leads = x.leads;
        own = owns_as (IsBy who) (IsByEither who writer)
            (λ before step by. record { by = inl by.by; running = by.running }) a h x.own;
      })

  as_me : (s : State) → s.who ≡ who → {old new : Option History} → StaysLegal s.who old new
      → Stays old new
  as_me s e {old = old} {new = new} stays = either (subst (λ (w : Who). StaysLegal w old new) e
      stays)

  put_stays : (s : State) → s.who ≡ who → (bytes : List ℕ) (result : Result (Unit {0}) WaheadFault)
      (u : State) {old new : Option History}
      → Puts s bytes result u old new → Stays old new
  put_stays s e bytes result u put = as_me s e (put_legal s bytes result u _ _ put)

  commit_stays : (s : State) → s.who ≡ who
      → {result : Result (Unit {0}) WaheadFault} {u : State} {old new : Option History}
      → Commits s old result u new → Stays old new
  commit_stays s e did = as_me s e (commit_legal s _ _ did)

  close_stays : (s : State) → s.who ≡ who
      → {result : Result (Unit {0}) WaheadFault} {u : State} {old new : Option History}
      → Closes s old result u new → Stays old new
  close_stays s e did = as_me s e (close_legal s _ _ did)

  -- ---- turns and runs

  further_stays : {door : List ℕ} {rotate left : ℕ} {s u : State} {t w : Tally}
      {result : Result (Unit {0}) WaheadFault}
      {old new : Option History} → s.who ≡ who → Further who door rotate left s t old result u w new
      → Stays old new
  further_stays e enough = leads_none _ (λ h legal. legal)
  further_stays e (full long) = leads_none _ (λ h legal. legal)
  further_stays e (none short call) = take_stays _ _ (Ok None) call
  further_stays {s = s} e (one {u = u} taken short call put rest) =
      leads_then (take_stays _ _ (Ok (Some taken)) call)
      (leads_then (put_stays s e taken.bytes (Ok tt) u put)
      (further_stays ((put_same s taken.bytes (Ok tt) u _ _ put).who ∙ e) rest))
  further_stays e (Further.untaken fault short call) = take_stays _ _ (Err fault) call
  further_stays {s = s} e (Further.unput {u = u} taken fault short call put) =
      leads_then (take_stays _ _ (Ok (Some taken)) call) (put_stays s e taken.bytes (Err fault) u put)

  gathers_stay : {door : List ℕ} {rotate further : ℕ} {s u : State} {t w : Tally}
      {result : Result Bool WaheadFault}
      {old new : Option History} → s.who ≡ who
      → Gathers who door rotate further s t old result u w new → Stays old new
  gathers_stay e (Gathers.silent call) = take_stays _ _ (Ok None) call
  gathers_stay {s = s} e (Gathers.heard {u = u} taken call put rest) =
      leads_then (take_stays _ _ (Ok (Some taken)) call)
      (leads_then (put_stays s e taken.bytes (Ok tt) u put)
      (further_stays ((put_same s taken.bytes (Ok tt) u _ _ put).who ∙ e) rest))
  gathers_stay e (Gathers.untaken fault call) = take_stays _ _ (Err fault) call
  gathers_stay {s = s} e (Gathers.unput {u = u} taken fault call put) =
      leads_then (take_stays _ _ (Ok (Some taken)) call) (put_stays s e taken.bytes (Err fault) u put)

  settles_stay : {rotate : ℕ} {s u : State} {result : Result (Unit {0}) WaheadFault}
      {old new : Option History} → s.who ≡ who
      → Settles rotate s old result u new → Stays old new
  settles_stay {s = s} e (uncommitted fault did) = commit_stays s e did
  settles_stay {s = s} e (kept did short) = commit_stays s e did
  settles_stay {s = s} e (closed {u = u} did long shut) =
      leads_then (commit_stays s e did) (close_stays u ((done_same did).who ∙ e) shut)

  turn_stays : {door : List ℕ} {rotate messages : ℕ} {s u : State} {t w : Tally}
      {result : Result (Unit {0}) WaheadFault}
      {old new : Option History} → s.who ≡ who
      → IsTurn who door rotate messages s t old result u w new → Stays old new
  turn_stays e (IsTurn.ungathered fault taken) = gathers_stay e taken
  turn_stays e (IsTurn.silent {u = u} taken shut) =
      leads_then (gathers_stay e taken) (close_stays u ((gathers_same taken).0 ∙ e) shut)
  turn_stays e (IsTurn.heard {u = u} taken settled) =
      leads_then (gathers_stay e taken) (settles_stay ((gathers_same taken).0 ∙ e) settled)

  turns_stay : {door : List ℕ} {rotate messages left : ℕ} {s u : State} {t w : Tally}
      {result : Result (Unit {0}) WaheadFault}
      {old new : Option History} → s.who ≡ who
      → AreTurned who door rotate messages left s t old result u w new → Stays old new
  turns_stay e over = leads_none _ (λ h legal. legal)
  turns_stay e (turn first rest) = leads_then (turn_stays e first)
      (turns_stay ((turn_same first).who ∙ e) rest)
  turns_stay e (AreTurned.cut fault first) = turn_stays e first

  turns_who : {door : List ℕ} {rotate messages left : ℕ} {s u : State} {t w : Tally}
      {result : Result (Unit {0}) WaheadFault}
      {old new : Option History} → AreTurned who door rotate messages left s t old result u w new
      → u.who ≡ s.who
  turns_who over = refl
  turns_who (turn first rest) = turns_who rest ∙ (turn_same first).who
  turns_who (AreTurned.cut fault first) = (turn_same first).who

  finish_stays : {s : State} {t : Tally} {result : Result (Unit {0}) WaheadFault}
      {old new : Option History} → s.who ≡ who
      → Finishes writer s t result old new → Stays old new
  finish_stays {s = s} e (unclosed fault did) = close_stays s e did
  finish_stays {s = s} e (told outside did prints) = leads_then (close_stays s e did)
      (prints_stay prints)

  goes_stay : {door : List ℕ} {turns rotate messages : ℕ} {s : State}
      {result : Result (Unit {0}) WaheadFault} {old new : Option History}
      → s.who ≡ who → GoesOn who writer door turns rotate messages s result old new → Stays old new
  goes_stay e (GoesOn.cut fault turned) = turns_stay e turned
  goes_stay e (finished turned ends) = leads_then (turns_stay e turned)
      (finish_stays (turns_who turned ∙ e) ends)

  run_stays : {door : List ℕ} {turns rotate messages : ℕ} {result : Result (Unit {0}) WaheadFault}
      {old new : Option History}
      → HasRun who writer door turns rotate messages result old new → Stays old new
  run_stays (unstarted fault starts) = either (start_legal who (Err fault) starts)
  run_stays (started {s = s} starts rest) =
      leads_then (either (start_legal who (Ok s) starts)) (goes_stay (begun s starts).who_is rest)

-- a run goes on legally
pub run_legal : (who writer : Who) {door : List ℕ} {turns rotate messages : ℕ}
    {result : Result (Unit {0}) WaheadFault} {old new : Option History}
    → who.role ≡ Writer → writer.role ≡ Writer
    → HasRun who writer door turns rotate messages result old new
    → GoesOnLegal who writer old new
run_legal who writer is is_writer ran stamped = run_stays stamped who writer is is_writer ran
