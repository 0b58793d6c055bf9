-- What holds in every history in which a writer's steps are runs.
use Rattle.std.proofs.Common.{◌≡◌, inl, inr, ℕ, ◌<◌, ◌≤◌, ◌==◌, Bool, true, false, List, [], ◌∷◌, ◌++◌, Option, Some, None, Result, Ok, Err, if◌then◌else◌, refl, sym, ◌∙◌, ap, ap₂, subst, arith, append_assoc, append-nil}
use Rattle.std.specs.Prelude.{MatchBool, nat_lt}
use Rattle.std.proofs.lemmas.Bool.{cases_Bool, ltb-true, ltb-false}
use Rattle.std.proofs.lemmas.List.{append_cancel_right}
use Rattle.std.proofs.lemmas.Option.{same_Some}
use Rattle.chk_bytes.specs.Words.{BeginsWith}
use Rattle.chk_site.specs.declared.acts.ActAnswer.{ActAnswer}
use Rattle.chk_site.specs.declared.acts.Call.TheVariants.{Say}
use Rattle.chk_site.specs.declared.acts.OutsideFault.{OutsideFault}
use Rattle.chk_site.specs.declared.acts.Who.{Who}
use Rattle.chk_site.specs.declared.acts.Act.{Act}
use Rattle.chk_site.specs.Acts.{Says, deed, same_who}
use Rattle.chk_site.specs.Files.{File, Files}
use Rattle.chk_site.specs.History.{History, Others, files_after, is_by}
use Rattle.chk_site.specs.Logs.{Logs}
use Rattle.chk_site.specs.Runs.{Leads, MadeInTurn}
use Rattle.chk_site.specs.Site.{Adds, Asked, asked, own_step}
use Rattle.chk_site.proofs.Leads.{leads_then, leads_as, leads_none, Shows}
use Rattle.chk_site.proofs.Stays.{unnamed_stays}
use Rattle.chk_wahead.specs.Names.{writer}
use Rattle.chk_wahead.specs.declared.fault.WaheadFault.{WaheadFault}
use Rattle.chk_wahead.specs.Scripts.{Did, IsSpent, PutsIn, Puts}
use Rattle.chk_wahead.specs.Starting.{plan_of, number_in}
use Rattle.chk_wahead.specs.States.{State, Held, left, last_number}
use Rattle.chk_wahead.specs.Telling.{Starts, unbegun, unlooked, damaged, unnamed, settled, start_result, started as started_state}
use Rattle.chk_udp_laws.specs.Marked.{Tally, tally, tally_by, given_by, took, joined, IsPart, closed_in, under_mark, marked}
use Rattle.chk_udp_laws.specs.Histories.{IsApart, SameSteps, none as no_steps, one as one_step, NextTemporary}
use Rattle.chk_udp_laws.specs.Uses.{Goes, IsRun, AreRuns, ends, gives_up, silent, put, committed, closed, told, unstarted, started, none, beside, ran, retold}
use Rattle.chk_udp_laws.specs.Laws.{NoneAbove, IsKept, IsKeptAlways, SavedIsMarked, MarkedGrows, IsMarked, MarkedSavesAll}
use Rattle.chk_udp_laws.proofs.Growing.{saved_grows}
use Rattle.chk_udp_laws.proofs.Naming.{B, M, C}
use Rattle.chk_udp_laws.proofs.Standing.{closed_above}
use Rattle.chk_udp_laws.proofs.Steps.{At, Some_at, Untouched, at_untouched}
use Rattle.chk_udp_laws.proofs.Parts.{joined_more, part_front}
use Rattle.chk_udp_laws.proofs.Phases.{View, Anything, Kept, All, view, Plain, S, all_on, all_beside, keeps, view_on, Move, rest, step_on, Ends, walk_leads}
use Rattle.chk_udp_laws.proofs.Moves.{done_tail}
use Rattle.chk_udp_laws.proofs.Marking.{Idle}
use Rattle.chk_udp_laws.proofs.Ending.{Committed}
use Rattle.chk_udp_laws.proofs.Looking.{start_leads}
use Rattle.chk_udp_laws.proofs.Calls.{Holds, all_saved, Ready, ready_all, put_leads, commit_leads, close_leads, untaken_leads, silent_leads, taken_leads}

-- what was taken doesn't matter for the buffers
pub holds_took : (held : Option Held) (v : View) (l : List (List ℕ)) → Holds held v
    → Holds held (record { buffer = v.buffer; mark = v.mark; tally = v.tally; took = l })
holds_took None v l i = record { buffer = i.buffer; mark = i.mark; unsaved = i.unsaved }
holds_took (Some h) v l f = record {
  open_is = record {
    file = f.open_is.file;
    buffer = f.open_is.buffer;
    size_is = f.open_is.size_is;
    low = f.open_is.low;
    content = f.open_is.content;
    mark = f.open_is.mark;
  };
  some = f.some;
}

if_same : {A : Type 0} (b : Bool) (x : A) → (if b then x else x) ≡ x
if_same true x = refl
if_same false x = refl

left_who : (s : State) (number : ℕ) (held : Option Held) (outside : Result (Unit {0}) OutsideFault)
    → (left s number held outside).who ≡ s.who
left_who s number held (Ok value) = refl
left_who s number held (Err fault) = refl

did_who : {calls : List Asked} {s u : State} {number : ℕ} {held : Option Held}
    {result : Result (Unit {0}) WaheadFault} {old new : Option History}
    → Did calls s number held result u old new → u.who ≡ s.who
did_who {s = s} {number = number} {held = held} did = ap (λ (x : State). x.who) did.state_is
    ∙ left_who s number held did.outside

first_who : (b : Bool) (calls : List Asked) (s u : State) (number : ℕ) (held : Option Held)
    (result : Result (Unit {0}) WaheadFault)
    (old new : Option History) → MatchBool b (IsSpent s result u old new)
    (Did calls s number held result u old new) → u.who ≡ s.who
first_who true calls s u number held result old new spent = ap (λ (x : State). x.who) spent.state_is
first_who false calls s u number held result old new did = did_who did

in_who : (at : Option Held) (s u : State) (bytes : List ℕ) (result : Result (Unit {0}) WaheadFault)
    (old new : Option History)
    → PutsIn at s bytes result u old new → u.who ≡ s.who
in_who None s u bytes result old new did =
    first_who (s.number == last_number) _ s u _ _ result old new did
in_who (Some h) s u bytes result old new did = did_who did

puts_who : (s u : State) (bytes : List ℕ) (result : Result (Unit {0}) WaheadFault)
    (old new : Option History)
    → Puts s bytes result u old new → u.who ≡ s.who
puts_who s u [] result old new did = ap (λ (x : State). x.who) did.state_is
puts_who s u (b ∷ bytes) result old new did = in_who s.held s u (b ∷ bytes) result old new did

-- the tally and what was taken, by one step more
abbrev tally_on : List ℕ → Act → Files → Files → Tally → Tally
tally_on n act after before t =
    if same_who (writer n) act.who then tally_by n (deed act) act.answer before after t else t

abbrev took_on : List ℕ → Act → List (List ℕ) → List (List ℕ)
took_on n act l = if same_who (writer n) act.who then l ++ given_by (deed act) act.answer else l

-- the state of a run that has started
begun_by : (who : Who) (number : ℕ) (outside : Result (Unit {0}) OutsideFault) (s : State)
    → Ok s ≡ start_result who number outside
    → (s.who ≡ who) × (s.held ≡ None)
begun_by who number (Ok value) s is =
    let same : s ≡ started_state who number = cc in
    (ap (λ (x : State). x.who) same, ap (λ (x : State). x.held) same)
begun_by who number (Err fault) s is = absurd (cc)

begun_at : (who : Who) (result : Result State WaheadFault) (s : State) {old new : Option History}
    → Ok s ≡ result → Starts who result old new
    → (s.who ≡ who) × (s.held ≡ None)
begun_at who result s is unbegun = absurd (cc)
begun_at who result s is (unlooked looks) = absurd (cc)
begun_at who result s is (damaged looks e) = absurd (cc)
begun_at who result s is (unnamed looks e) = absurd (cc)
begun_at who result s is (settled {found = found} {outside = outside} looks e made) =
    begun_by who (number_in (plan_of found)) outside s is

module _ (n : List ℕ) where
  -- ---- a line that is printed

  module _ (teller : Who) (line : List ℕ) (k : ℕ) (E : View → Type 0) where
    abbrev Q : Asked
    Q = asked teller Say (line ∷ []) 0 0

    pub said_tally : (answer : ActAnswer) (files : Files) (logs : Logs) (h : History)
        → tally n (own_step Q answer files logs ∷ h) ≡ tally n h
    said_tally answer files logs h =
        if_same (is_by (writer n) (own_step Q answer files logs)) (tally n h)

    pub said_took : (answer : ActAnswer) (files : Files) (logs : Logs) (h : History)
        → took n (own_step Q answer files logs ∷ h) ≡ took n h
    said_took answer files logs h =
        ap (λ l. if is_by (writer n) (own_step Q answer files logs) then l else took n h)
        (append-nil (took n h))
        ∙ if_same (is_by (writer n) (own_step Q answer files logs)) (took n h)

    away : Untouched n (Says line)
    away = record { next = refl; buffer = refl; mark = refl; closed = λ j low. refl }

    any_said : (answer : ActAnswer) → Shows (Plain n k E) (All n) Q answer
    any_said answer before files logs running honest p =
        all_on n before (own_step Q answer files logs) (said_tally answer files logs before)
        (said_took answer files logs before)
        (record {
          number = k;
          stands = at_untouched n before (own_step Q answer files logs) k _
              honest.modelled away p.at;
        }) p.all

    say_move : Move n Q (Plain n k E) (Plain n k E)
    say_move = record {
      any = any_said;
      done =
          λ answer was before files logs running honest p.
          let step = own_step Q answer files logs in
          record {
            all = any_said answer before files logs running honest p;
            at =
                subst (λ (t : Tally). At n files k (joined t.saved))
                (sym (said_tally answer files logs before))
                (at_untouched n before step k _ honest.modelled away p.at);
            fits = view_on n before step (unnamed_stays before step (B n) honest.modelled refl
                (done_tail answer (B n) was))
                (unnamed_stays before step (M n) honest.modelled refl (done_tail answer (M n) was))
                (said_tally answer files logs before) (said_took answer files logs before) E p.fits;
            next = tt;
          };
      weak = λ h p. p.all;
      keeps = keeps n k E NextTemporary Anything;
    }

    pub said : {outside : Result (Unit {0}) OutsideFault} {old new : Option History}
        → MadeInTurn (Q ∷ []) outside old new
        → Adds old new (Leads (S n) (Plain n k E) (Ends n (Plain n k E) outside))
    said script = walk_leads n (step_on say_move (rest (λ h p. p.all))) script

  -- ---- a run

  -- what is known where a run ends, or ends for now
  abbrev pub Ending : Option State → History → Type 0
  Ending None h = All n h
  Ending (Some s) h = Ready n s h

  ending_all : (end : Option State) (h : History) → Ending end h → All n h
  ending_all None h a = a
  ending_all (Some s) h a = ready_all n s h a

  goes_leads : (s : State) (end : Option State) {old new : Option History} → s.who ≡ writer n
      → Goes (writer n) s end old new
      → Adds old new (Leads (S n) (Ready n s) (Ending end))
  goes_leads s end {old = old} who ends = leads_none old (λ h r. r)
  goes_leads s end {old = old} who gives_up = leads_none old (ready_all n s)
  goes_leads s end who (Goes.untaken door wait fault call) =
      untaken_leads n door wait s.number (Holds s.held) fault call
  goes_leads s end who (silent door wait call later) =
      leads_then (silent_leads n door wait s.number (Holds s.held) (holds_took s.held) call)
      (goes_leads s end who later)
  goes_leads s end who (Goes.unput {mid = mid} {new = new} u door wait taking fault call did) =
      leads_then (taken_leads n door wait s.number (Holds s.held) taking (holds_took s.held) call)
      (put_leads n s u taking.bytes (Err fault) mid new who did)
  goes_leads s end who (put {u = u} {mid = mid} {late = late} door wait taking call did later) =
      leads_then (taken_leads n door wait s.number (Holds s.held) taking (holds_took s.held) call)
      (leads_then (put_leads n s u taking.bytes (Ok tt) mid late who did)
      (goes_leads u end (puts_who s u taking.bytes (Ok tt) mid late did ∙ who) later))
  goes_leads s end who (Goes.uncommitted {u = u} fault did) = commit_leads n s u did
  goes_leads s end who (committed {u = u} did later) =
      leads_then (commit_leads n s u did) (goes_leads u end (did_who did ∙ who) later)
  goes_leads s end who (Goes.unclosed {u = u} fault did) = close_leads n s u did
  goes_leads s end who (closed {u = u} did later) =
      leads_then (close_leads n s u did) (goes_leads u end (did_who did ∙ who) later)
  goes_leads s end who (Goes.untold teller line fault script) =
      said teller line s.number (Holds s.held) script
  goes_leads s end who (told teller line script later) =
      leads_then (said teller line s.number (Holds s.held) script) (goes_leads s end who later)

  run_leads : (end : Option State) {old new : Option History} → IsRun (writer n) end old new
      → Adds old new (Leads (S n) (All n) (Ending end))
  run_leads end (unstarted fault starts) = start_leads n (Err fault) starts
  run_leads end (started {s = s} starts later) =
      let b = begun_at (writer n) (Ok s) s refl starts in
      leads_then (start_leads n (Ok s) starts)
      (leads_as (λ h p. subst (λ o. Plain n s.number (Holds o) h) (sym b.1) p) (λ h a. a)
      (goes_leads s end b.0 later))

  -- ---- another teller of the same steps

  same_after : {h k : History} → SameSteps h k → files_after k ≡ files_after h
  same_after no_steps = refl
  same_after (one_step later act files) = files

  same_tally : {h k : History} → SameSteps h k → tally n k ≡ tally n h
  same_tally no_steps = refl
  same_tally (one_step {step = step} {same = same} {history = history} {others =
      others} later act files) =
      ap₂ (λ a f. tally_on n a f (files_after others) (tally n others)) act files
      ∙ ap₂ (λ f t. tally_on n step.act step.files f t) (same_after later) (same_tally later)

  same_took : {h k : History} → SameSteps h k → took n k ≡ took n h
  same_took no_steps = refl
  same_took (one_step {step = step} {same = same} {history = history} {others =
      others} later act files) =
      ap (λ a. took_on n a (took n others)) act ∙ ap (took_on n step.act) (same_took later)

  same_kept : {h k : History} → SameSteps h k → Kept n h → Kept n k
  same_kept {h = h} {k = k} same p = record {
    stands =
        subst (λ f. Some_at n f (joined (tally n k).saved)) (sym (same_after same))
        (subst (λ (t : Tally). Some_at n (files_after h) (joined t.saved)) (sym (same_tally same))
        p.stands);
    part =
        subst (λ (t : Tally). IsPart (t.saved ++ t.unsaved) (took n k)) (sym (same_tally same))
        (subst (λ l. IsPart ((tally n h).saved ++ (tally n h).unsaved) l) (sym (same_took same))
        p.part);
  }

  same_all : {h k : History} → SameSteps h k → All n h → All n k
  same_all no_steps all = all
  same_all (one_step later act files) all =
      (same_all later all.0, same_kept (one_step later act files) all.1)

  -- ---- all runs

  run_ending : (end : Option State) (added history : History)
      → IsRun (writer n) end (Some history) (Some (added ++ history))
      → Others (IsApart n) added history → All n history → Ending end (added ++ history)
  run_ending end added history run others all =
      let x = (run_leads end run).told history refl in
      let same : x.0 ++ history ≡ added ++ history =
      same_Some (x.0 ++ history) (added ++ history) (sym x.1) in
      let is : x.0 ≡ added = append_cancel_right x.0 added history same in
      (subst (λ a. Leads (S n) (All n) (Ending end) a history) is x.2).leads others all

  pub runs_all : {h : History} → AreRuns n h → All n h
  runs_all none = record {
    stands = record {
      number = 0;
      stands = record {
        low = omega arith;
        number = refl;
        absent = λ j above under. refl;
        settled = λ j under. tt;
        fresh = tt;
        mark = tt;
        is = refl;
      };
    };
    part = IsPart.empty;
  }
  runs_all (beside {step = step} {history = history} runs modelled by away) =
      all_beside n history step modelled by away (runs_all runs)
  runs_all (ran {history = history} end added runs run others) =
      ending_all end (added ++ history) (run_ending end added history run others (runs_all runs))
  runs_all (retold runs same) = same_all same (runs_all runs)

  -- ---- the laws

  closed_either : (c : ℕ → Option File) (k last : ℕ)
      → ((j : ℕ) → k < j → j ≤ last_number → c j ≡ None)
      → ((j : ℕ) → last < j → j ≤ last_number → c j ≡ None)
      → k ≤ last_number → last ≤ last_number → closed_in c last ≡ closed_in c k
  closed_either c k last above_k above_last low_k low_last = elim (cases_Bool (nat_lt last k)) [
    | inl less ↦
        let h : last < k = ltb-true last k less in
        sym (closed_above c last k (omega (arith, h))
        (λ j above under. above_last j above (omega (arith, under, low_k))))
    | inr not_less ↦
        let h : k ≤ last = ltb-false last k not_less in
        closed_above c k last h (λ j above under. above_k j above (omega (arith, under, low_last)))
  ]

  pub is_kept : (h : History) → Kept n h → IsKept n h
  is_kept h p =
      let st = p.stands.stands in
      let c : ℕ → Option File = λ j. files_after h (C n j) in
      record {
        all =
            λ last none.
            ap (λ t. t ++ under_mark (files_after h (B n)) (files_after h (M n)))
            (closed_either c p.stands.number last st.absent none.1 st.low none.0) ∙ st.is;
        part = part_front (tally n h).saved (tally n h).unsaved p.part;
      }

  always : (h : History) → All n h → IsKeptAlways n h
  always [] all = is_kept [] all
  always (step ∷ h) all = (always h all.0, is_kept (step ∷ h) all.1)

  early_kept : (added h : History) → IsKeptAlways n (added ++ h) → IsKept n h
  early_kept [] [] kept = kept
  early_kept [] (step ∷ h) kept = kept.1
  early_kept (step ∷ added) h kept = early_kept added h kept.0

  last_kept : (h : History) → IsKeptAlways n h → IsKept n h
  last_kept [] kept = kept
  last_kept (step ∷ h) kept = kept.1

  saved_later : (added h : History)
      → (more : List (List ℕ)) × ((tally n (added ++ h)).saved ≡ (tally n h).saved ++ more)
  saved_later [] h = ([], sym (append-nil (tally n h).saved))
  saved_later (step ∷ added) h =
      let one = saved_grows n (added ++ h) step in
      let later = saved_later added h in (
        later.0 ++ one.0,
        one.1 ∙ (ap (λ l. l ++ one.0) later.1 ∙ append_assoc (tally n h).saved
            later.0 one.0),
      )

  pub marked_later : (added h : History) (early late : ℕ) → AreRuns n (added ++ h)
      → NoneAbove n early h → NoneAbove n late (added ++ h)
      → BeginsWith (marked (files_after (added ++ h)) n late) (marked (files_after h) n early)
  marked_later added h early late runs none_early none_late =
      let kept = always (added ++ h) (runs_all runs) in
      let more = saved_later added h in (
        joined more.0,
        (last_kept (added ++ h) kept).all late none_late
            ∙ (ap joined more.1 ∙ (joined_more (tally n h).saved more.0
            ∙ ap (λ t. t ++ joined more.0) (sym ((early_kept added h kept).all early none_early)))),
      )

  -- where the mark says the whole buffer, or there is none, nothing waits to be saved
  idle_here : (s : State) (h : History) → s.held ≡ None → Ready n s h → Idle (view n h)
  idle_here s h free r = subst (λ o. Holds o (view n h)) free r.fits

  full_here : (s : State) (held : Held) (h : History) → s.held ≡ Some held
      → held.marked ≡ held.length_now → Ready n s h
      → Committed held.length_now (view n h)
  full_here s held h is same r =
      all_saved n held.length_now held.marked (view n h) same
      (subst (λ o. Holds o (view n h)) is r.fits)

  tidy_here : (s : State) (o : Option Held) (h : History) → s.held ≡ o → IsMarked o → Ready n s h
      → joined (tally n h).unsaved ≡ []
  tidy_here s None h is tidy r = (idle_here s h is r).unsaved
  tidy_here s (Some held) h is tidy r = (full_here s held h is tidy r).unsaved

  closed_here : (s : State) (h : History) → s.held ≡ None → Ready n s h → files_after h (B n) ≡ None
  closed_here s h free r = (idle_here s h free r).buffer

pub marked_saves_all : MarkedSavesAll
marked_saves_all n added history s runs run others tidy = record {
  saved = tidy_here n s s.held (added ++ history) refl tidy
      (run_ending n (Some s) added history run others (runs_all n runs));
  closed = λ free. closed_here n s (added ++ history) free
      (run_ending n (Some s) added history run others (runs_all n runs));
}

pub saved_is_marked : SavedIsMarked
saved_is_marked n history runs = always n history (runs_all n runs)

pub marked_grows : MarkedGrows
marked_grows n added history early late runs none_early none_late =
    marked_later n added history early late runs none_early none_late
