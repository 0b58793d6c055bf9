-- What a run of the command leads to, turn by turn.
use Rattle.std.proofs.Common.{◌≡◌, ℕ, Bool, true, false, List, [], ◌∷◌, ◌++◌, Option, None, Result, Ok, Err, if◌then◌else◌, refl, sym, ◌∙◌, ap, subst, append_assoc, append-nil}
use Rattle.std.proofs.lemmas.List.{append_cancel_left, append_cancel_right}
use Rattle.std.proofs.lemmas.Option.{same_Some}
use Rattle.chk_site.specs.declared.acts.Call.TheVariants.{Say}
use Rattle.chk_site.specs.declared.acts.OutsideFault.{OutsideFault}
use Rattle.chk_site.specs.declared.acts.Who.{Who}
use Rattle.chk_site.specs.Acts.{deed}
use Rattle.chk_site.specs.History.{History, Others, is_by}
use Rattle.chk_site.specs.Runs.{Leads, MadeInTurn, finished, went_on}
use Rattle.chk_site.specs.Site.{Adds, Asked, asked}
use Rattle.chk_site.proofs.Leads.{leads_then, leads_as, leads_none, done_leads}
use Rattle.chk_cmd_output.proofs.Printed.{prints_made}
use Rattle.chk_wahead.specs.declared.fault.WaheadFault.{WaheadFault}
use Rattle.chk_wahead.specs.declared.fault.WaheadFault.TheVariants.{Outside, Damaged, Spent, NoMemory}
use Rattle.chk_wahead.specs.Faults.{wahead_fault, wahead_result}
use Rattle.chk_wahead.specs.Names.{writer}
use Rattle.chk_wahead.specs.States.{State}
use Rattle.chk_cmd_udp.specs.declared.tally.Tally.{Tally}
use Rattle.chk_cmd_udp.specs.Takings.{TakesOnce, Further, Gathers, came}
use Rattle.chk_cmd_udp.specs.Turns.{Settles, IsTurn}
use Rattle.chk_cmd_udp.specs.Runs.{AreTurned, Finishes, GoesOn, HasRun}
use Rattle.chk_cmd_udp.proofs.Gathering.{gathers_same}
use Rattle.chk_cmd_udp.proofs.Keeping.{put_same, done_same, done_held}
use Rattle.chk_cmd_udp.proofs.Turning.{turn_same}
use Rattle.chk_cmd_udp.proofs.Starting.{begun}
use Rattle.chk_udp_laws.specs.Marked.{tally, took, joined, given_by}
use Rattle.chk_udp_laws.specs.Histories.{IsApart}
use Rattle.chk_udp_laws.specs.Uses.{AreRuns}
use Rattle.chk_udp_laws.specs.Wholes.{HasLast, IsAllMarked, RunLeaves, CommandRan, RunsLeave}
use Rattle.chk_udp_laws.proofs.Phases.{All, now, Plain, S, owned}
use Rattle.chk_udp_laws.proofs.Marking.{Idle}
use Rattle.chk_udp_laws.proofs.Calls.{Holds}
use Rattle.chk_udp_laws.proofs.Law.{said, said_tally, said_took, runs_all, is_kept}
use Rattle.chk_udp_laws.proofs.Ledger.{all_in, Ledger, keeps_ledger}
use Rattle.chk_udp_laws.proofs.Leaving.{both_lead, Shown, outside_shown, Holding, After, anywhere, put_after, commit_after, close_after, silent_after, taken_after, call_anywhere}
use Rattle.chk_udp_laws.proofs.Beginning.{Prior, starts_after}

module _ (n d : List ℕ) (l : List (List ℕ)) where
  abbrev W : Who
  W = writer n

  abbrev Holds_all : State → History → Type 0
  Holds_all s h = Holding n d l s [] h

  abbrev Behind : {T : Type 0} → Result T WaheadFault → State → History → Type 0
  Behind result u h = After n d l result u h

  untaken_after : {A : History → Type 0} (door : List ℕ) (wait : ℕ) (fault : OutsideFault)
      {old new : Option History} → TakesOnce W door wait (Err fault) old new
      → Adds old new (Leads (S n) A (Shown n (wahead_fault fault)))
  untaken_after door wait fault call =
      leads_as (λ h x. x) (λ h x. outside_shown n fault h)
      (call_anywhere n d l door wait call.0 call.2)

  further_after : {door : List ℕ} {rotate left : ℕ} (s u : State) {t w : Tally}
      (result : Result (Unit {0}) WaheadFault) {old new : Option History} → s.who ≡ W
      → Further W door rotate left s t old result u w new
      → Adds old new (Leads (S n) (Holds_all s) (Behind result u))
  further_after s u result {old = old} e Further.enough = leads_none old (λ h x. x)
  further_after s u result {old = old} e (Further.full long) = leads_none old (λ h x. x)
  further_after {door = door} s u result e (Further.none short call) =
      silent_after n d l door 0 s call
  further_after {door = door} s u result e (Further.one {u = v} {mid = mid} {next = next}
      taking short call did later) =
      leads_then (taken_after n d l door 0 s taking call)
      (leads_then (put_after n d l s v taking.bytes (Ok tt) mid next e did)
      (further_after v u result ((put_same s taking.bytes (Ok tt) v mid next did).who ∙ e) later))
  further_after {door = door} s u result e (Further.untaken fault short call) =
      untaken_after door 0 fault call
  further_after {door = door} s u result {new = new} e (Further.unput {u = v} {mid = mid}
      taking fault short call did) =
      leads_then (taken_after n d l door 0 s taking call)
      (put_after n d l s v taking.bytes (Err fault) mid new e did)

  came_after : (result : Result (Unit {0}) WaheadFault) (u : State) (h : History)
      → Behind result u h → Behind (came result) u h
  came_after (Ok value) u h x = x
  came_after (Err fault) u h x = x

  gathers_after : {door : List ℕ} {rotate further : ℕ} (s u : State) {t w : Tally}
      (result : Result Bool WaheadFault) {old new : Option History} → s.who ≡ W
      → Gathers W door rotate further s t old result u w new
      → Adds old new (Leads (S n) (Holds_all s) (Behind result u))
  gathers_after {door = door} s u result e (Gathers.silent call) =
      silent_after n d l door 1000 s call
  gathers_after {door = door} s u result e (Gathers.heard {u = v} {result = rest} {mid = mid}
      {next = next} taking call did later) =
      leads_then (taken_after n d l door 1000 s taking call)
      (leads_then (put_after n d l s v taking.bytes (Ok tt) mid next e did)
      (leads_as (λ h x. x) (came_after rest u)
      (further_after v u rest ((put_same s taking.bytes (Ok tt) v mid next did).who ∙ e) later)))
  gathers_after {door = door} s u result e (Gathers.untaken fault call) =
      untaken_after door 1000 fault call
  gathers_after {door = door} s u result {new = new} e (Gathers.unput {u = v} {mid = mid}
      taking fault call did) =
      leads_then (taken_after n d l door 1000 s taking call)
      (put_after n d l s v taking.bytes (Err fault) mid new e did)

  settles_after : {rotate : ℕ} (s u : State) (result : Result (Unit {0}) WaheadFault)
      {old new : Option History} → s.who ≡ W → Settles rotate s old result u new
      → Adds old new (Leads (S n) (Holds_all s) (Behind result u))
  settles_after s u result e (Settles.uncommitted fault did) = commit_after n d l s u e did
  settles_after s u result e (Settles.kept did short) = commit_after n d l s u e did
  settles_after s u result e (Settles.closed {u = v} did long shut) =
      leads_then (commit_after n d l s v e did)
      (close_after n d l v u ((done_same did).who ∙ e) shut)

  pub turn_after : {door : List ℕ} {rotate messages : ℕ} (s u : State) {t w : Tally}
      (result : Result (Unit {0}) WaheadFault) {old new : Option History} → s.who ≡ W
      → IsTurn W door rotate messages s t old result u w new
      → Adds old new (Leads (S n) (Holds_all s) (Behind result u))
  turn_after s u result e (IsTurn.ungathered fault taken) =
      gathers_after s u (Err fault) e taken
  turn_after s u result e (IsTurn.silent {u = v} taken shut) =
      leads_then (gathers_after s v (Ok false) e taken)
      (close_after n d l v u ((gathers_same taken).0 ∙ e) shut)
  turn_after s u result e (IsTurn.heard {u = v} taken settled) =
      leads_then (gathers_after s v (Ok true) e taken)
      (settles_after v u result ((gathers_same taken).0 ∙ e) settled)

  turns_after : {door : List ℕ} {rotate messages left : ℕ} (s u : State) {t w : Tally}
      (result : Result (Unit {0}) WaheadFault) {old new : Option History} → s.who ≡ W
      → AreTurned W door rotate messages left s t old result u w new
      → Adds old new (Leads (S n) (Holds_all s) (Behind result u))
  turns_after s u result {old = old} e AreTurned.over = leads_none old (λ h x. x)
  turns_after s u result e (AreTurned.turn {u = v} one later) =
      leads_then (turn_after s v (Ok tt) e one)
      (turns_after v u result ((turn_same one).who ∙ e) later)
  turns_after s u result e (AreTurned.cut fault one) = turn_after s u (Err fault) e one

  turned_who : {door : List ℕ} {rotate messages left : ℕ} {s u : State} {t w : Tally}
      {result : Result (Unit {0}) WaheadFault} {old new : Option History}
      → AreTurned W door rotate messages left s t old result u w new → u.who ≡ s.who
  turned_who AreTurned.over = refl
  turned_who (AreTurned.turn one later) = turned_who later ∙ (turn_same one).who
  turned_who (AreTurned.cut fault one) = (turn_same one).who

  -- ---- the end

  -- no buffer is left, and all that was taken was added
  pub record IsOver (h : History) : Type 0 where
    pub number : ℕ
    pub plain : Plain n number Idle h
    pub added : Ledger n d l [] h

  abbrev pub Ended : Result (Unit {0}) WaheadFault → History → Type 0
  Ended (Ok value) h = IsOver h
  Ended (Err fault) h = Shown n fault h

  over_of : (u : State) → u.held ≡ None → (h : History) → Holds_all u h → IsOver h
  over_of u free h x = record {
    number = u.number;
    plain = subst (λ o. Plain n u.number (Holds o) h) free x.0;
    added = x.1;
  }

  module _ (teller : Who) (line : List ℕ) where
    abbrev Q : Asked
    Q = asked teller Say (line ∷ []) 0 0

    line_ledger : {old new : Option History} → MadeInTurn (Q ∷ []) (Ok tt) old new
        → Adds old new (Leads (S n) (Ledger n d l []) (Ledger n d l []))
    line_ledger (went_on given is told finished) =
        done_leads given (owned n Q) is (keeps_ledger n d l [])
        (λ answer was before files logs running honest b. record {
          more = b.more;
          took_is = said_took n teller line 0 (λ v. Unit {0}) answer files logs before ∙ b.took_is;
          all_is = ap all_in (said_tally n teller line 0 (λ v. Unit {0}) answer files logs before)
              ∙ b.all_is;
        })
        told

    told_after : (k : ℕ) (outside : Result (Unit {0}) OutsideFault) {old new : Option History}
        → MadeInTurn (Q ∷ []) outside old new
        → Adds old new (Leads (S n) (λ h. Plain n k Idle h × Ledger n d l [] h)
        (Ended (wahead_result outside)))
    told_after k (Ok value) script =
        leads_as (λ h x. x) (λ h x. record { number = k; plain = x.0; added = x.1 })
        (both_lead (said n teller line k Idle script) (line_ledger script))
    told_after k (Err fault) script =
        leads_as (λ h x. x) (λ h x. outside_shown n fault h) (anywhere n d l script)

  finishes_after : {teller : Who} (s : State) {t : Tally} (result : Result (Unit {0}) WaheadFault)
      {old new : Option History} → s.who ≡ W → Finishes teller s t result old new
      → Adds old new (Leads (S n) (Holds_all s) (Ended result))
  finishes_after s result e (Finishes.unclosed {u = u} fault did) = close_after n d l s u e did
  finishes_after {teller = teller} s result e (Finishes.told {u = u} outside did prints) =
      leads_then
      (leads_as (λ h x. x) (λ h x. (
        subst (λ o. Plain n u.number (Holds o) h) (done_held did refl) x.0,
        x.1,
      )) (close_after n d l s u e did))
      (told_after teller _ u.number outside (prints_made prints))

  goes_after : {teller : Who} {door : List ℕ} {turns rotate messages : ℕ} (s : State)
      (result : Result (Unit {0}) WaheadFault) {old new : Option History} → s.who ≡ W
      → GoesOn W teller door turns rotate messages s result old new
      → Adds old new (Leads (S n) (Holds_all s) (Ended result))
  goes_after s result e (GoesOn.cut {u = u} fault turned) = turns_after s u (Err fault) e turned
  goes_after s result e (GoesOn.finished {u = u} turned finish) =
      leads_then (turns_after s u (Ok tt) e turned)
      (finishes_after u result (turned_who turned ∙ e) finish)

  pub run_after : {teller : Who} {door : List ℕ} {turns rotate messages : ℕ}
      (result : Result (Unit {0}) WaheadFault) {old new : Option History}
      → HasRun W teller door turns rotate messages result old new
      → Adds old new (Leads (S n) (λ h. All n h × Prior n d l h) (Ended result))
  run_after result (HasRun.unstarted fault starts) = starts_after n d l (Err fault) starts
  run_after result (HasRun.started {s = s} starts later) =
      let b = begun s starts in
      leads_then (starts_after n d l (Ok s) starts)
      (leads_as (λ h x. (subst (λ o. Plain n s.number (Holds o) h) (sym b.held) x.0, x.1))
      (λ h x. x) (goes_after s result b.who_is later))

-- ---- the law

-- what was taken in two stretches
took_step : (gives before late rest : List (List ℕ)) (b : Bool) → rest ≡ before ++ late
    → (if b then rest ++ gives else rest) ≡ before ++ (if b then late ++ gives else late)
took_step gives before late rest true is =
    ap (λ x. x ++ gives) is ∙ append_assoc before late gives
took_step gives before late rest false is = is

took_apart : (n : List ℕ) (added h : History) → took n (added ++ h) ≡ took n h ++ took n added
took_apart n [] h = sym (append-nil (took n h))
took_apart n (step ∷ added) h =
    took_step (given_by (deed step.act) step.act.answer) (took n h) (took n added)
    (took n (added ++ h)) (is_by (writer n) step) (took_apart n added h)

module _ (n : List ℕ) where
  last_of : (h : History) → All n h → HasLast n h
  last_of h all =
      let at = (now n h all).stands in
      record { number = at.number; above = (at.stands.low, at.stands.absent) }

  all_marked_by : (added h : History) → All n h
      → IsOver n (joined (tally n h).saved) (took n h) (added ++ h) → IsAllMarked n added h
  all_marked_by added h all over =
      let new : History = added ++ h in
      let later = over.plain.all in
      let more_is : over.added.more ++ [] ≡ took n added =
      append_cancel_left (took n h) (over.added.more ++ []) (took n added)
      (sym over.added.took_is ∙ took_apart n added h) in
      let saved_is : joined (tally n new).saved
      ≡ joined (tally n h).saved ++ joined (took n added) =
      sym (ap (λ x. joined (tally n new).saved ++ x) over.plain.fits.unsaved
      ∙ append-nil (joined (tally n new).saved))
      ∙ (over.added.all_is
      ∙ ap (λ x. joined (tally n h).saved ++ joined x)
      (sym (append-nil over.added.more) ∙ more_is)) in
      record {
        buffer = over.plain.fits.buffer;
        mark = over.plain.fits.mark;
        first = last_of h all;
        last = last_of new later;
        all = λ early late none_early none_late.
            (is_kept n new (now n new later)).all late none_late
            ∙ (saved_is ∙ ap (λ x. x ++ joined (took n added))
            (sym ((is_kept n h (now n h all)).all early none_early)));
      }

  leaves_by : (result : Result (Unit {0}) WaheadFault) (added h : History) → All n h
      → Ended n (joined (tally n h).saved) (took n h) result (added ++ h)
      → RunLeaves n result added h
  leaves_by (Ok value) added h all over = all_marked_by added h all over
  leaves_by (Err (Outside call)) added h all shown = tt
  leaves_by (Err (Damaged name at)) added h all shown = shown
  leaves_by (Err (Spent number)) added h all shown = shown
  leaves_by (Err NoMemory) added h all shown = tt

  pub run_leaves : (result : Result (Unit {0}) WaheadFault) (added h : History) → AreRuns n h
      → CommandRan n result added h → Others (IsApart n) added h → RunLeaves n result added h
  run_leaves result added h runs c others =
      let all = runs_all n runs in
      let d = joined (tally n h).saved in
      let P : History → Type 0 = λ x. All n x × Prior n d (took n h) x in
      let x = (run_after n d (took n h) result c.5).told h refl in
      let same : x.0 ++ h ≡ added ++ h = same_Some (x.0 ++ h) (added ++ h) (sym x.1) in
      let is : x.0 ≡ added = append_cancel_right x.0 added h same in
      leaves_by result added h all
      ((subst (λ a. Leads (S n) P (Ended n d (took n h) result) a h) is x.2).leads others
      (all, record { saved = refl; took_is = refl }))

pub runs_leave : RunsLeave
runs_leave n result added history runs ran others =
    run_leaves n result added history runs ran others
