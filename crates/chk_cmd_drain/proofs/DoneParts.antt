-- What the beginning of a drain leaves, and what follows it.
use Rattle.std.proofs.Common.{◌≡◌, inl, inr, ℕ, true, false, List, [], ◌∷◌, ◌++◌, map, Option, Some, Ok, Err, Result, refl, sym, ◌∙◌, ap, subst, arith, append_assoc, true≢false}
use Rattle.chk_bytes.specs.Words.{parts_at}
use Rattle.chk_site.specs.declared.acts.Role.TheVariants.{Writer}
use Rattle.chk_site.specs.declared.acts.OutsideFault.{OutsideFault}
use Rattle.chk_site.specs.declared.acts.Who.{Who}
use Rattle.chk_site.specs.History.{History, Step, Every, Others, is_stopped}
use Rattle.chk_site.specs.Site.{Adds}
use Rattle.chk_site.specs.Runs.{HasStarted, Leads}
use Rattle.chk_site.proofs.Runs.{adds_as, adds_both, adds_none, adds_then, every_early, every_late}
use Rattle.chk_failover.specs.Turns.{Turns}
use Rattle.chk_world.specs.Checkpoints.{Line}
use Rattle.chk_world.specs.Places.{As, IsMadeBy, Talking}
use Rattle.chk_world.specs.Rules.{Legal}
use Rattle.chk_world.specs.Streams.{whole_end}
use Rattle.chk_world.specs.Together.{Outside}
use Rattle.chk_world.proofs.Beside.{others_foreign}
use Rattle.chk_agent_adaptor.specs.declared.adaptor.Phase.{Phase}
use Rattle.chk_agent_adaptor.specs.declared.adaptor.Phase.TheVariants.{Live, Stopping, Shrank, Past}
use Rattle.chk_agent_adaptor.specs.Adaptors.{is_past, is_stepped, stream_at}
use Rattle.chk_agent.specs.declared.agent.Rules.{Rules}
use Rattle.chk_agent.specs.Commands.{live_from}
use Rattle.chk_agent.specs.Facts.{Matches}
use Rattle.chk_agent.specs.Fits.{IsSound}
use Rattle.chk_agent.specs.Starts.{IsFresh}
use Rattle.chk_agent.specs.States.{State, committed_at, process}
use Rattle.chk_agent.proofs.TalkingTold.{ran_before}
use Rattle.chk_agent.proofs.TurningTold.{TalksOn}
use Rattle.chk_agent_run.specs.declared.faults.RunFault.{RunFault}
use Rattle.chk_agent_run.specs.declared.faults.RunFault.TheVariants as runs
use Rattle.chk_agent_run.specs.Calls.{Clocked}
use Rattle.chk_agent_run.specs.Initial.{AreAdded, LooksAt, ReadsInitial}
use Rattle.chk_agent_run.specs.Runs.{InRun}
use Rattle.chk_agent_run.proofs.Started.{reads_in_run}
use Rattle.chk_agent_drain.specs.declared.answers.Drained.{Drained}
use Rattle.chk_agent_drain.specs.declared.answers.Drained.TheVariants.{Done}
use Rattle.chk_agent_drain.specs.declared.answers.Drained.TheVariants as drained
use Rattle.chk_agent_drain.specs.Whole.{DrainsTo}
use Rattle.chk_agent_drain.proofs.ReadingAll.{meanwhile_early, others_early, ran}
use Rattle.chk_cmd_output.specs.Printing.{PrintsInTurn, by}
use Rattle.chk_cmd_output.proofs.Printed.{Printed, prints_join, prints_told}
use Rattle.chk_cmd_drain.specs.declared.begin.Begun.{Begun}
use Rattle.chk_cmd_drain.specs.declared.faults.DrainFault.{DrainFault}
use Rattle.chk_cmd_drain.specs.declared.faults.DrainFault.TheVariants.{Growing, Pending, Refused, Run}
use Rattle.chk_cmd_drain.specs.declared.faults.DrainFault.TheVariants as drains
use Rattle.chk_cmd_drain.specs.Done.{lines_then}
use Rattle.chk_cmd_drain.specs.Drains.{IsUndone, told_as}
use Rattle.chk_cmd_drain.specs.Parts.{BeginsSo, BegunTo, FinishedTo, FinishesSo}
use Rattle.chk_cmd_drain.specs.Streams.{told_line}
use Rattle.chk_cmd_drain.proofs.Adding.{all_added, line_read, starts_with}
use Rattle.chk_cmd_drain.proofs.PrintsTalk.{prints_talk}
use Rattle.chk_cmd_drain.proofs.Saved.{none_read}
use Rattle.chk_cmd_drain.proofs.Silent.{added_silent}
use Rattle.chk_cmd_output.proofs.Silent.{Silent}

-- ---- the beginning

-- where it ended early nothing is said
pub nothing_begun : (stamped : List (List ℕ)) (who writer : Who) (initial : Option (List ℕ))
    (fault : RunFault) (r : Result Begun RunFault) → r ≡ Err fault
    → {P : History → History → Type 0} {old new : Option History} → Adds old new P
    → Adds old new (BeginsSo stamped who writer initial r)
nothing_begun stamped who writer initial fault r is {old = old} {new = new} p =
    subst (λ (k : Result Begun RunFault). Adds old new (BeginsSo stamped who writer initial k))
    (sym is)
    (adds_as (BeginsSo stamped who writer initial (Err fault)) p (λ a h x. tt))

module _ (stamped : List (List ℕ)) (who writer : Who) (role : writer.role ≡ Writer)
    (initial : Option (List ℕ)) (text : List ℕ) where
  -- the file was read
  record FileRead (added history : History) : Type 0 where
    leads : Leads (InRun stamped who writer) (Legal stamped) (Legal stamped) added history
    file : ReadsInitial writer initial (Ok text) (Some history) (Some (added ++ history))

  file_read : {old new : Option History} → Adds old new (Every (LooksAt writer))
      → ReadsInitial writer initial (Ok text) old new → Adds old new FileRead
  file_read {old = old} {new = new} looks file =
      let leads = reads_in_run stamped who writer role looks in
      record {
        told = λ history e.
            let x = leads.told history e in (
              x.0,
              x.1,
              record {
                leads = x.2;
                file = subst (λ o. ReadsInitial writer initial (Ok text) o (Some (x.0 ++ history)))
                    e
                    (subst (λ n. ReadsInitial writer initial (Ok text) old n) x.1 file);
              },
            );
        untold = leads.untold;
      }

  module _ (s t : State) (ring : Turns) (rules : Rules) (fresh : IsFresh who ring rules s) where
    -- and then the agent was started
    record IsUp (added history : History) : Type 0 where
      reads : History
      start : History
      split : added ≡ start ++ reads
      first : FileRead reads history
      started : HasStarted who start (reads ++ history)
      matches : Leads (As stamped who) (Legal stamped) (Matches stamped s) start (reads ++ history)

    up : {old mid new : Option History} → Adds old mid FileRead
        → Adds mid new (HasStarted who)
        → Adds mid new (Leads (As stamped who) (Legal stamped) (Matches stamped s))
        → Adds old new IsUp
    up first started matches =
        adds_then IsUp first
        (adds_both (λ a h. HasStarted who a h
        × Leads (As stamped who) (Legal stamped) (Matches stamped s) a h) started matches
        (λ a h x y. (x, y)))
        (λ a b history x y. record {
          reads = a;
          start = b;
          split = refl;
          first = x;
          started = y.0;
          matches = y.1;
        })

    -- the checkpoint then
    lines_up : (later a history : History) (u : IsUp a history)
        → Leads (Talking stamped (process s)) (Matches stamped s) (Matches stamped t) later
        (a ++ history)
        → Others (Outside stamped (who ∷ [])) (later ++ a) history → Legal stamped history
        → is_stopped ((later ++ a) ++ history) ≡ false
        → lines_then who.name (u.start ++ (u.reads ++ history)) ≡ s.saved
    lines_up later a history u talks others legal running =
        let O : History → Step → Type 0 =
        λ before step. step.own ≡ false → Outside stamped (who ∷ []) before step in
        let early : Others (Outside stamped (who ∷ [])) (u.start ++ u.reads) history =
        subst (λ (k : History). Others (Outside stamped (who ∷ [])) k history) u.split
        (every_early O later a history others) in
        let runs : is_stopped (a ++ history) ≡ false =
        ran_before (IsMadeBy (process s)) (λ before step made. made.running) later (a ++ history)
        talks.own
        (ap is_stopped (sym (append_assoc later a history)) ∙ running) in
        let goes : is_stopped (u.start ++ (u.reads ++ history)) ≡ false =
        ap is_stopped (sym (append_assoc u.start u.reads history))
        ∙ (ap (λ (k : History). is_stopped (k ++ history)) (sym u.split) ∙ runs) in
        let matches : Matches stamped s (u.start ++ (u.reads ++ history)) =
        u.matches.leads
        (others_foreign stamped (who ∷ []) who (0, omega arith, refl) u.start (u.reads ++ history)
        (every_late O u.start u.reads history early))
        (u.first.leads.leads (every_early O u.start u.reads history early) legal) in
        ap (lines_then_of (u.start ++ (u.reads ++ history))) (sym fresh.source)
        ∙ (matches.alive goes fresh.ready).lines_are
      where
        lines_then_of : History → List ℕ → List Line
        lines_then_of h name = lines_then name h

    pub begun_to : {old mid up_at next new : Option History} → Adds old mid (Every (LooksAt writer))
        → ReadsInitial writer initial (Ok text) old mid
        → Adds mid up_at (HasStarted who)
        → Adds mid up_at (Leads (As stamped who) (Legal stamped) (Matches stamped s))
        → TalksOn s t up_at new → {now : ℕ} → Clocked who (Ok now) up_at next
        → AreAdded 0 (parts_at 10 text) s (Ok tt) t next new
        → Adds old new (BegunTo stamped who writer initial t)
    begun_to looks file started matches talks clocked added =
        let all = all_added added in
        let from = starts_with s fresh.adaptors in
        adds_then (BegunTo stamped who writer initial t)
        (up (file_read looks file) started matches)
        (adds_both (λ b h. Leads (Talking stamped (process s)) (Matches stamped s)
        (Matches stamped t) b h × Silent b h) (talks stamped) (added_silent clocked added)
        (λ b h x y. (x, y)))
        (λ a b history u x. record {
          reads = u.reads;
          start = u.start;
          later = b;
          split = ap (λ (k : History). b ++ k) u.split;
          text = text;
          file = u.first.file;
          started = u.started;
          silent = x.1;
          lines = s.saved;
          lines_are = λ others legal running. lines_up b a history u x.0 others legal running;
          steady = all.adds.steady from.steady;
          saved = all.adds.saved from.saved;
          met = all.met;
          kept = λ kind path h. all.adds.kept kind path (line_read s from.saved kind path h);
          only = λ kind path r. elim (all.adds.only kind path r) [
            | inl old ↦ inl (from.only kind path old)
            | inr new ↦ inr new
          ];
        })

-- ---- what follows

module _ (stamped : List (List ℕ)) (who : Who) (s : State) where
  -- no stream was live
  pub idle_to : live_from 0 s.adaptors ≡ [] → s.ready ≡ true → (now : Option History)
      → Adds now now (FinishedTo stamped who s s)
  idle_to none ready now = adds_none now (FinishedTo stamped who s s) (λ history. record {
    printed_is = ap (λ ns. map (by who) (map (told_line s) ns)) (sym none);
    ready = ready;
    whole = λ others matches running i a at steps.
        absurd (none_read 0 s.adaptors none i a at (lives a.phase steps));
  })
    where
      lives : (p : Phase) → is_stepped p ≡ true → is_past p ≡ false
      lives Live steps = refl
      lives (Stopping end) steps = refl
      lives Shrank steps = refl
      lives Past steps = absurd (true≢false (sym steps))

  -- where it ended early nothing is said
  pub unfinished : (t : State) (fault : RunFault) {P : History → History → Type 0}
      {old new : Option History} → Adds old new P
      → Adds old new (FinishesSo stamped who s (Err (Run fault)) t)
  unfinished t fault p = adds_as (FinishesSo stamped who s (Err (Run fault)) t) p (λ a h x. tt)

  -- but that no log is shorter than what was read of it
  abbrev UndoneTo : State → Option History → Option History → DrainFault → Type 0
  UndoneTo t old new fault = Adds old new (FinishesSo stamped who s (Err fault) t)

  pub undone_to : (t : State) (answer : Drained) (fault : DrainFault) → IsUndone t answer fault
      → {old new : Option History} → Adds old new (DrainsTo stamped s (Ok answer) t)
      → Adds old new (FinishesSo stamped who s (Err fault) t)
  undone_to t answer fault is {old = old} {new = new} told = go answer is told
    where
      wanting : {P : History → History → Type 0} → Adds old new P
          → UndoneTo t old new (Run runs.NoMemory)
      wanting p = unfinished t runs.NoMemory p

      go : (answer : Drained) → IsUndone t answer fault
          → Adds old new (DrainsTo stamped s (Ok answer) t)
          → UndoneTo t old new fault
      go Done is told = absurd is
      go (drained.Pending stem got want) is told =
          subst (UndoneTo t old new) (sym is)
          (adds_as (FinishesSo stamped who s (Err (Pending stem got want)) t) told (λ a h x. tt))
      go (drained.Growing i reads) (inl k) told =
          subst (UndoneTo t old new) (sym k.2)
          (adds_as (FinishesSo stamped who s (Err (Growing k.0 reads)) t) told (λ a h x. tt))
      go (drained.Growing i reads) (inr is) told =
          subst (UndoneTo t old new) (sym is) (wanting told)
      go (drained.Shrank i had size) (inl k) told =
          subst (UndoneTo t old new) (sym k.2)
          (adds_as (FinishesSo stamped who s (Err (drains.Shrank k.0 had size)) t) told
          (λ a h x others known running. x.long tt others known running))
      go (drained.Shrank i had size) (inr is) told =
          subst (UndoneTo t old new) (sym is) (wanting told)
      go (drained.AllTried count code) is told =
          subst (UndoneTo t old new) (sym is)
          (adds_as (FinishesSo stamped who s (Err (Refused code)) t) told (λ a h x. tt))

  -- it was drained, and its lines were printed up to a call that failed
  pub told_to : (t : State) (sound : IsSound t) (ready : t.ready ≡ true) (me : who ≡ process t)
      (result : Result (Unit {0}) OutsideFault) {old mid new : Option History}
      → Adds old mid (DrainsTo stamped s (Ok Done) t) → Adds old mid Silent
      → PrintsInTurn who (map (told_line t) (live_from 0 s.adaptors)) result mid new
      → Adds old new (FinishesSo stamped who s (told_as result) t)
  told_to t sound ready me (Err fault) drains silent prints =
      adds_then (FinishesSo stamped who s (told_as (Err fault)) t) drains
      (prints_talk t who me sound ready prints stamped) (λ a b history x y. tt)
  told_to t sound ready me (Ok value) drains silent prints =
      let lines = map (told_line t) (live_from 0 s.adaptors) in
      adds_then (FinishedTo stamped who s t)
      (adds_both (λ a h. DrainsTo stamped s (Ok Done) t a h × Silent a h) drains silent
      (λ a h x y. (x, y)))
      (adds_both (λ b h. Printed who lines b h
      × Leads (Talking stamped (process t)) (Matches stamped t) (Matches stamped t) b h)
      (prints_told prints) (prints_talk t who me sound ready prints stamped) (λ b h x y. (x, y)))
      (λ a b history x y. record {
        printed_is = prints_join b a ∙ (λ i. x.1 i ++ y.0 i);
        ready = ready;
        whole = λ others matches running i k at steps.
            meanwhile_early (λ h. whole_end h (stream_at s.source k) ≡ committed_at t i) b a history
            (x.0.whole refl (others_early stamped s.source b a history others) matches
            (ran stamped t.source b a history y.1 running) i k at steps);
      })
