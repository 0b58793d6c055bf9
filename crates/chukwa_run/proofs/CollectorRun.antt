-- The run of a collector under the rules of all processes.
use Rattle.std.proofs.Common.{◌≡◌, inl, inr, ℕ, true, false, List, [], ◌∷◌, ◌++◌, Ok, Err, Option, Some, Result, refl, sym, ◌∙◌, ap, subst, true≢false, arith}
use Rattle.std.specs.Prelude.{Contains, OnOk, IfErr}
use Rattle.chk_site.specs.declared.acts.Who.{Who}
use Rattle.chk_site.specs.History.{Step, History, Every, Others, is_stopped}
use Rattle.chk_site.specs.Site.{Adds, Rose}
use Rattle.chk_site.specs.Runs.{Leads, Owns}
use Rattle.chk_site.proofs.Leads.{leads_then}
use Rattle.chk_site.proofs.Runs.{adds_as, adds_both}
use Rattle.chk_world.specs.Rules.{Legal, Obeys}
use Rattle.chk_world.specs.Together.{Outside as OfOthers, IsByOne, Together}
use Rattle.chk_sink.specs.declared.fault.SinkFault.{SinkFault}
use Rattle.chk_sink.specs.declared.fault.SinkFault.TheVariants as Sinks
use Rattle.chk_sink.specs.Faults.{FailsLast}
use Rattle.chk_sink.specs.Starts.{IsLastStart}
use Rattle.chk_sink.specs.States.{State}
use Rattle.chk_tee_sender.specs.declared.Subscriber.{Subscriber}
use Rattle.chk_collector_run.specs.Legality.{Finds, FindsCommitted, TurnCause, opens_turn}
use Rattle.chk_agent_run.specs.Initial.{LooksAt}
use Rattle.chk_collector_run.specs.Turns.{AreCollectorTurns, over, turn}
use Rattle.chk_collector_run.specs.Runs.{CollectorRan, IsCutRun, Collected}
use Rattle.chk_collector_run.proofs.Counts.{last_then}
use Rattle.chk_collector_run.proofs.Takings.{finds_then}
use Rattle.chk_cmd_line.specs.Commands.{CollectorAsked}
use Rattle.chk_cmd_line.specs.Commands.{Collector}
use Rattle.chk_cmd_line.specs.declared.endings.Ending.{Ending}
use Rattle.chk_cmd_line.specs.declared.endings.Ending.TheVariants as Endings
use Rattle.chukwa_run.specs.Processes.{the_collector, started_by, acting_for, RunSide}
use Rattle.chk_cmd_load.specs.Processes.{chukwa}
use Rattle.chukwa_run.specs.Whole.{CollectorScript, Whole}
use Rattle.chukwa_run.specs.Showing.{IsCutAt, IsUnread, CollectorCut, CollectorFits, Shows}
use Rattle.chukwa_run.specs.Teeing.{TeesRead, ReadCause, ReadFailsLast}
use Rattle.chukwa_run.specs.Causes.{EndingCause, sink_ending}
use Rattle.chukwa_run.specs.Statuses.{HasItsStatus}
use Rattle.chukwa_run.specs.Runs.{Begins, EndsWith, CameTo, CausedBy}
use Rattle.chukwa_run.proofs.Acts.{failed_last}
use Rattle.chukwa_run.proofs.Alive.{Alive, call_alive, works_alive, start_alive}
use Rattle.chukwa_run.proofs.Writing.{IsHarmless, writer_obeys, chukwa_acts}

turns_alive : {who : Who} {door : List ℕ} {most wait turns : ℕ} {s t : State} {a b : List Subscriber} {old new : Option History}
    → AreCollectorTurns who door most wait turns s a old t b new → Alive old → Alive new
turns_alive over alive = alive
turns_alive (turn one rest) alive = turns_alive rest (works_alive one.tick.own refl (call_alive _ tt one.clock))

ran_alive : {who : Who} {rotate turns : ℕ} {door : List ℕ} {most wait : ℕ} {a : List Subscriber} {old new : Option History}
    → CollectorRan who rotate turns door most wait a old new → Alive new
ran_alive r = works_alive r.finish.own refl (turns_alive r.each (start_alive r.start.own r.start.starts))

-- the result as that of a run
abbrev pub ending : Result (Unit {0}) SinkFault → Result (Unit {0}) Ending
ending (Ok value) = Ok value
ending (Err fault) = Err (sink_ending fault)

-- which endings a reading of the file of subscribers has
abbrev IsOfReading : Result (List Subscriber) Ending → Type 0
IsOfReading (Ok a) = Unit {0}
IsOfReading (Err (Endings.Outside call)) = Unit {0}
IsOfReading (Err Endings.NoMemory) = Unit {0}
IsOfReading (Err (Endings.Damaged name at)) = Unit {0}
IsOfReading (Err e) = ⊥

is_read : {file : Option (List ℕ)} {result : Result (List Subscriber) Ending} {old new : Option History}
    → TeesRead file result old new → IsOfReading result
is_read TeesRead.unnamed = tt
is_read (TeesRead.named given reads is) = tt
is_read (TeesRead.damaged given reads is) = tt
is_read (TeesRead.failed call reads) = tt
is_read (TeesRead.wanting given reads) = tt
is_read TeesRead.unbegun = tt

-- how a reading that ended the run counts
pub unread_cause : (before now : ℕ) (e : Ending) → ReadCause {T = List Subscriber} before now (Err e)
    → EndingCause before now (Err e)
unread_cause before now (Endings.Outside call) rose = rose
unread_cause before now Endings.NoMemory same = tt
unread_cause before now (Endings.Damaged name at) same = tt
unread_cause before now (Endings.Length stem got want) same = tt
unread_cause before now (Endings.Growing path reads) same = tt
unread_cause before now (Endings.Unclosed name) same = tt
unread_cause before now (Endings.Shrank path had is) same = tt
unread_cause before now (Endings.Spent n) same = tt
unread_cause before now (Endings.Refused code) same = tt
unread_cause before now (Endings.Differ source kind stream at) same = tt

-- and behind it a run that failed
pub collected_cause : (before read now : ℕ) (fault : SinkFault) → read ≡ before
    → TurnCause read now (Err fault) → EndingCause before now (Err (sink_ending fault))
collected_cause before read now (Sinks.Outside call) same rose = subst (λ (n : ℕ). Rose n now) same rose.0
collected_cause before read now (Sinks.Damaged name at) same rose = tt
collected_cause before read now (Sinks.Spent born) same rose = tt
collected_cause before read now Sinks.NoMemory same rose = tt

status_so : (w : CollectorAsked) (e : Ending) → IsOfReading (Err e) → HasItsStatus (Collector w) (Err e)
status_so w (Endings.Outside call) of = refl
status_so w Endings.NoMemory of = refl
status_so w (Endings.Damaged name at) of = refl
status_so w (Endings.Length stem got want) of = absurd of
status_so w (Endings.Growing path reads) of = absurd of
status_so w (Endings.Unclosed name) of = absurd of
status_so w (Endings.Shrank path had is) of = absurd of
status_so w (Endings.Spent n) of = absurd of
status_so w (Endings.Refused code) of = absurd of
status_so w (Endings.Differ source kind stream at) of = absurd of

pub unread_status : (w : CollectorAsked) (e : Ending) {file : Option (List ℕ)} {old new : Option History}
    → TeesRead file (Err e) old new → HasItsStatus (Collector w) (Err e)
unread_status w e read = status_so w e (is_read read)

module _ (w : CollectorAsked) where
  abbrev C : Who
  C = the_collector w.name

  -- the script of the run, and the one that was cut short by this fault
  abbrev pub Ran : Option History → Option History → Type 0
  Ran old new =
      (a : List Subscriber) × (read : Option History) × TeesRead w.tee (Ok a) old read
      × CollectorRan C w.rotate w.turns w.address w.messages 1000 a read new

  abbrev pub Cut : SinkFault → Option History → Option History → Type 0
  Cut fault old new =
      (a : List Subscriber) × (read : Option History) × TeesRead w.tee (Ok a) old read
      × IsCutRun C w.rotate w.turns w.address w.messages 1000 a fault read new

  -- what the library says of the run, between these told histories
  pub record IsCollection (result : Result (Unit {0}) SinkFault) (old new : Option History) : Type 0 where
    pub ran : OnOk result (Ran old new)
    pub refused : IfErr result (λ fault. Cut fault old new)
    pub told : (stamped : List (List ℕ)) → Adds old new (Leads (RunSide stamped (Collector w)) (Legal stamped) (Collected stamped C result))
    pub finds : (stamped : List (List ℕ)) → Adds old new (Finds (OfOthers stamped (C ∷ [])) w.name (Legal stamped))
    pub spent : IsLastStart result
    pub last : Adds old new (FailsLast result)

  -- by the acts alone
  cut_so : (fault : SinkFault) (added history : History)
      → Cut fault (Some history) (Some (added ++ history))
      → IsLastStart {T = Unit {0}} (Err fault) → FailsLast {T = Unit {0}} (Err fault) added history
      → is_stopped (added ++ history) ≡ false
      → CollectorCut w history (sink_ending fault) added
  cut_so (Sinks.Outside call) added history cut spent last running = (failed_last added call (last running), inl cut)
  cut_so (Sinks.Damaged name at) added history cut spent last running = inl cut
  cut_so (Sinks.Spent born) added history cut spent last running = (spent, cut)
  cut_so Sinks.NoMemory added history cut spent last running = tt

  pub caused : (result : Result (Unit {0}) SinkFault) {old new : Option History} → IsCollection result old new → (added history : History)
      → old ≡ Some history → new ≡ Some (added ++ history) → FailsLast result added history
      → CausedBy (Collector w) (ending result) added history
  caused (Ok value) {old = old} s added history is to last =
      let script : CollectorScript w history added =
      subst (λ (o : Option History). Ran o (Some (added ++ history))) is
      (subst (λ (n : Option History). Ran old n) to s.ran) in
      record {
        running = λ r. script;
        stopped = λ stop. absurd (true≢false (sym stop ∙ ran_alive script.3));
      }
  caused (Err fault) {old = old} s added history is to last =
      let cut : IsCutAt w fault history added =
      subst (λ (o : Option History). Cut fault o (Some (added ++ history))) is
      (subst (λ (n : Option History). Cut fault old n) to s.refused) in
      record {
        running = λ r. cut_so fault added history cut s.spent last r;
        stopped = λ stop. tt;
      }

  pub causes : (result : Result (Unit {0}) SinkFault) {old new : Option History} → IsCollection result old new
      → Adds old new (CausedBy (Collector w) (ending result))
  causes result s = record {
    told = λ history e. let t = s.last.told history e in (t.0, t.1, caused result s t.0 history e t.1 t.2);
    untold = s.last.untold;
  }

  -- from a legal history
  fits_so : (stamped : List (List ℕ)) (fault : SinkFault) (added history : History) → Collected stamped C (Err fault) (added ++ history)
      → is_stopped (added ++ history) ≡ false → CollectorFits w history (sink_ending fault) added
  fits_so stamped (Sinks.Outside call) added history c running = tt
  fits_so stamped (Sinks.Damaged name at) added history c running = absurd (c.alive running)
  fits_so stamped (Sinks.Spent born) added history c running = c.alive running
  fits_so stamped Sinks.NoMemory added history c running = tt

  legal_so : (stamped : List (List ℕ)) (result : Result (Unit {0}) SinkFault) (h : History) → Collected stamped C result h → Legal stamped h
  legal_so stamped (Ok value) h c = c.legal
  legal_so stamped (Err (Sinks.Outside call)) h c = c
  legal_so stamped (Err (Sinks.Damaged name at)) h c = c.legal
  legal_so stamped (Err (Sinks.Spent born)) h c = c.legal
  legal_so stamped (Err Sinks.NoMemory) h c = c

  came_so : (stamped : List (List ℕ)) (result : Result (Unit {0}) SinkFault) (added history : History)
      → CausedBy (Collector w) (ending result) added history → Collected stamped C result (added ++ history)
      → Every (FindsCommitted w.name) added history
      → CameTo (Whole stamped (Collector w) history) (Shows (Collector w) history) (ending result) added history
  came_so stamped (Ok value) added history by c finds = record {
    running = λ r. record { ran = by.running r; committed = finds; closed = c.alive r };
    stopped = by.stopped;
  }
  came_so stamped (Err fault) added history by c finds = record {
    running = λ r. (by.running r, fits_so stamped fault added history c r);
    stopped = by.stopped;
  }

  pub told : (stamped : List (List ℕ)) (earlier : History) (result : Result (Unit {0}) SinkFault) {old new : Option History}
      → IsCollection result old new
      → Adds old new (Leads (RunSide stamped (Collector w)) (Begins stamped earlier) (EndsWith stamped (Collector w) (ending result) earlier))
  told stamped earlier result s =
      adds_both (Leads (RunSide stamped (Collector w)) (Begins stamped earlier) (EndsWith stamped (Collector w) (ending result) earlier))
      (adds_both (λ a h. CausedBy (Collector w) (ending result) a h × Finds (OfOthers stamped (C ∷ [])) w.name (Legal stamped) a h)
      (causes result s) (s.finds stamped) (λ a h x y. (x, y)))
      (s.told stamped)
      (λ added history x y. record {
        leads =
            λ others begins.
            let c = y.leads others begins.legal in
            record {
              legal = legal_so stamped result (added ++ history) c;
              since = record {
                added = added;
                goes_on = ap (λ (h : History). added ++ h) begins.is;
                holds =
                    subst (λ (h : History). CameTo (Whole stamped (Collector w) h) (Shows (Collector w) h) (ending result) added h) begins.is
                    (came_so stamped result added history x.0 c (x.1 others begins.legal));
              };
            };
        own = y.own;
      })

  -- ---- the reads of the file of subscribers

  look_obeys : (stamped : List (List ℕ)) (before : History) (step : Step) → LooksAt chukwa before step
      → (step.own ≡ false → OfOthers stamped (C ∷ []) before step) → Obeys stamped before step
  look_obeys stamped before step (file, inl theirs) outside = (outside theirs.0).obeys
  look_obeys stamped before step (file, inr read) outside =
      writer_obeys stamped before step read.by (subst IsHarmless (sym read.asks) tt) read.honest

  looks_legal : (stamped : List (List ℕ)) (added history : History) → Every (LooksAt chukwa) added history
      → Others (OfOthers stamped (C ∷ [])) added history → Legal stamped history → Legal stamped (added ++ history)
  looks_legal stamped [] history looks others legal = legal
  looks_legal stamped (step ∷ added) history looks others legal = (
    looks_legal stamped added history looks.0 others.0 legal,
    look_obeys stamped (added ++ history) step looks.1 others.1,
  )

  look_of_one : (before : History) (step : Step) → LooksAt chukwa before step → step.own ≡ true
      → IsByOne (acting_for (Collector w)) before step
  look_of_one before step (file, inl theirs) own = absurd (true≢false (sym own ∙ theirs.0))
  look_of_one before step (file, inr read) own = record {
    one = subst (Contains (acting_for (Collector w))) (sym read.by) (chukwa_acts (Collector w));
    running = read.running;
  }

  looks_of_one : (added history : History) → Every (LooksAt chukwa) added history
      → Owns (IsByOne (acting_for (Collector w))) added history
  looks_of_one [] history looks = tt
  looks_of_one (step ∷ added) history looks =
      (looks_of_one added history looks.0, look_of_one (added ++ history) step looks.1)

  looks_lead : (stamped : List (List ℕ)) {old new : Option History} → Adds old new (Every (LooksAt chukwa))
      → Adds old new (Leads (RunSide stamped (Collector w)) (Legal stamped) (Legal stamped))
  looks_lead stamped looks =
      adds_as (Leads (RunSide stamped (Collector w)) (Legal stamped) (Legal stamped)) looks
      (λ added history each. record {
        leads = λ others legal. looks_legal stamped added history each others legal;
        own = looks_of_one added history each;
      })

  look_opens : (before : History) (step : Step) → LooksAt chukwa before step → FindsCommitted w.name before step
  look_opens before step (file, inl theirs) own opens = absurd (true≢false (sym own ∙ theirs.0))
  look_opens before step (file, inr read) own opens = absurd (subst opens_turn read.asks opens)

  looks_open : (added history : History) → Every (LooksAt chukwa) added history → Every (FindsCommitted w.name) added history
  looks_open [] history looks = tt
  looks_open (step ∷ added) history looks =
      (looks_open added history looks.0, look_opens (added ++ history) step looks.1)

  looks_find : (stamped : List (List ℕ)) {old new : Option History} → Adds old new (Every (LooksAt chukwa))
      → Adds old new (Finds (OfOthers stamped (C ∷ [])) w.name (Legal stamped))
  looks_find stamped looks =
      adds_as (Finds (OfOthers stamped (C ∷ [])) w.name (Legal stamped)) looks
      (λ added history each others legal. looks_open added history each)

  -- ---- a run that the file ended, before the start

  unread_cut : (e : Ending) (added history : History) → IsUnread w e history added
      → ReadFailsLast {T = List Subscriber} (Err e) added history → is_stopped (added ++ history) ≡ false
      → CollectorCut w history e added
  unread_cut (Endings.Outside call) added history unread last running = (failed_last added call (last running), inr unread)
  unread_cut Endings.NoMemory added history unread last running = tt
  unread_cut (Endings.Damaged name at) added history unread last running = inr unread
  unread_cut (Endings.Length stem got want) added history unread last running = absurd (is_read unread)
  unread_cut (Endings.Growing path reads) added history unread last running = absurd (is_read unread)
  unread_cut (Endings.Unclosed name) added history unread last running = absurd (is_read unread)
  unread_cut (Endings.Shrank path had is) added history unread last running = absurd (is_read unread)
  unread_cut (Endings.Spent n) added history unread last running = absurd (is_read unread)
  unread_cut (Endings.Refused code) added history unread last running = absurd (is_read unread)
  unread_cut (Endings.Differ source kind stream at) added history unread last running =
      absurd (is_read unread)

  unread_fits : (e : Ending) (added history : History) → IsUnread w e history added → CollectorFits w history e added
  unread_fits (Endings.Outside call) added history unread = tt
  unread_fits Endings.NoMemory added history unread = tt
  unread_fits (Endings.Damaged name at) added history unread = unread
  unread_fits (Endings.Length stem got want) added history unread = tt
  unread_fits (Endings.Growing path reads) added history unread = tt
  unread_fits (Endings.Unclosed name) added history unread = tt
  unread_fits (Endings.Shrank path had is) added history unread = tt
  unread_fits (Endings.Spent n) added history unread = absurd (is_read unread)
  unread_fits (Endings.Refused code) added history unread = tt
  unread_fits (Endings.Differ source kind stream at) added history unread = tt

  -- what the reading says, where it ended the run
  pub record IsReading (e : Ending) (old new : Option History) : Type 0 where
    pub read : TeesRead w.tee (Err e) old new
    pub looks : Adds old new (Every (LooksAt chukwa))
    pub last : Adds old new (ReadFailsLast {T = List Subscriber} (Err e))

  unread_at : (e : Ending) {old new : Option History} → IsReading e old new → (added history : History)
      → old ≡ Some history → new ≡ Some (added ++ history) → IsUnread w e history added
  unread_at e {old = old} r added history is to =
      subst (λ (o : Option History). TeesRead w.tee (Err e) o (Some (added ++ history))) is
      (subst (λ (n : Option History). TeesRead w.tee (Err e) old n) to r.read)

  pub unread_causes : (e : Ending) {old new : Option History} → IsReading e old new
      → Adds old new (CausedBy (Collector w) (Err e))
  unread_causes e r = record {
    told = λ history is.
        let t = r.last.told history is in (
          t.0,
          t.1,
          record {
            running = λ running. unread_cut e t.0 history (unread_at e r t.0 history is t.1) t.2 running;
            stopped = λ stop. tt;
          },
        );
    untold = r.last.untold;
  }

  -- and the script besides
  unread_both : (e : Ending) {old new : Option History} → IsReading e old new
      → Adds old new (λ added history. CausedBy (Collector w) (Err e) added history × IsUnread w e history added)
  unread_both e r = record {
    told = λ history is.
        let t = (unread_causes e r).told history is in
        (t.0, t.1, (t.2, unread_at e r t.0 history is t.1));
    untold = r.last.untold;
  }

  pub unread_told : (stamped : List (List ℕ)) (earlier : History) (e : Ending) {old new : Option History}
      → IsReading e old new
      → Adds old new (Leads (RunSide stamped (Collector w)) (Begins stamped earlier) (EndsWith stamped (Collector w) (Err e) earlier))
  unread_told stamped earlier e r =
      adds_both (Leads (RunSide stamped (Collector w)) (Begins stamped earlier) (EndsWith stamped (Collector w) (Err e) earlier))
      (unread_both e r) (looks_lead stamped r.looks)
      (λ added history x y. record {
        leads =
            λ others begins. record {
              legal = y.leads others begins.legal;
              since = record {
                added = added;
                goes_on = ap (λ (h : History). added ++ h) begins.is;
                holds =
                    subst (λ (h : History). CameTo (Whole stamped (Collector w) h) (Shows (Collector w) h) (Err e) added h) begins.is
                    (record {
                      running = λ running. (x.0.running running, unread_fits e added history x.1);
                      stopped = x.0.stopped;
                    });
              };
            };
        own = y.own;
      })

  -- ---- a run with its subscribers

  -- what the library says of a process and a door of these names
  pub record IsGiven (result : Result (Unit {0}) SinkFault) (old new : Option History) (who : Who) (door : List ℕ)
      (a : List Subscriber) : Type 0 where
    pub ran : OnOk result (CollectorRan who w.rotate w.turns door w.messages 1000 a old new)
    pub refused : IfErr result (λ fault. IsCutRun who w.rotate w.turns door w.messages 1000 a fault old new)
    pub told : (stamped : List (List ℕ)) (started acting : List Who) → Contains started who → Contains acting who
        → Adds old new (Leads (Together stamped started acting) (Legal stamped) (Collected stamped who result))
    pub finds : (stamped : List (List ℕ)) (started : List Who) → Contains started who
        → Adds old new (Finds (OfOthers stamped started) who.name (Legal stamped))
    pub spent : IsLastStart result
    pub last : Adds old new (FailsLast result)

  ran_by : (result : Result (Unit {0}) SinkFault) {old read : Option History} (new : Option History) (a : List Subscriber)
      → TeesRead w.tee (Ok a) old read
      → OnOk result (CollectorRan C w.rotate w.turns w.address w.messages 1000 a read new) → OnOk result (Ran old new)
  ran_by (Ok value) {read = read} new a tees ran = (a, read, tees, ran)
  ran_by (Err fault) new a tees ran = tt

  cut_by : (result : Result (Unit {0}) SinkFault) {old read : Option History} (new : Option History) (a : List Subscriber)
      → TeesRead w.tee (Ok a) old read
      → IfErr result (λ fault. IsCutRun C w.rotate w.turns w.address w.messages 1000 a fault read new)
      → IfErr result (λ fault. Cut fault old new)
  cut_by (Ok value) new a tees cut = tt
  cut_by (Err fault) {read = read} new a tees cut = (a, read, tees, cut)

  pub collection : (result : Result (Unit {0}) SinkFault) {old read new : Option History} (who : Who) (door : List ℕ)
      (a : List Subscriber) → who ≡ C → door ≡ w.address → TeesRead w.tee (Ok a) old read
      → Adds old read (Every (LooksAt chukwa)) → IsGiven result read new who door a → IsCollection result old new
  collection result {read = read} {new = new} who door a is at tees looks given =
      let g = subst (λ (x : List ℕ). IsGiven result read new C x a) at
      (subst (λ (x : Who). IsGiven result read new x door a) is given) in
      record {
        ran = ran_by result new a tees g.ran;
        refused = cut_by result new a tees g.refused;
        told = λ stamped.
            leads_then (looks_lead stamped looks)
            (g.told stamped (started_by (Collector w)) (acting_for (Collector w)) (0, omega arith, refl) (0, omega arith, refl));
        finds = λ stamped.
            finds_then w.name (looks_lead stamped looks) (looks_find stamped looks)
            (g.finds stamped (C ∷ []) (0, omega arith, refl));
        spent = g.spent;
        last = last_then result looks g.last;
      }
