-- What a load leads to from a legal history.
use Rattle.std.proofs.Common.{◌≡◌, ℕ, true, false, List, [], ◌++◌, Ok, Err, Option, Some, None, Result, refl, sym, ◌∙◌, ap, subst, append_assoc}
use Rattle.std.specs.Prelude.{Contains, codes}
use Rattle.chk_site.specs.declared.acts.OutsideFault.{OutsideFault}
use Rattle.chk_site.specs.declared.acts.OutsideFault.TheVariants.{Outside as site_failed, NoMemory as no_memory}
use Rattle.chk_site.specs.declared.acts.Who.{Who}
use Rattle.chk_site.specs.History.{History, Others, files_after, is_stopped, since_start}
use Rattle.chk_site.specs.Runs.{Leads, Owns, Side, own_acts}
use Rattle.chk_site.specs.Site.{Acted, Adds, plain}
use Rattle.chk_site.proofs.Runs.{adds_as, adds_both, adds_none, adds_then, every_early, every_join, every_late, ran}
use Rattle.chk_world.specs.Agents.{AllOfCluster, stream_of}
use Rattle.chk_world.specs.Checkpoints.{Line, checkpoint_lines}
use Rattle.chk_world.specs.Knowing.{agent}
use Rattle.chk_world.specs.Rules.{Legal}
use Rattle.chk_world.specs.Together.{Outside as OutsideOf, Together}
use Rattle.chk_round.specs.declared.faults.RoundFault.{RoundFault}
use Rattle.chk_round.specs.declared.whole_round.Rounded.{Rounded}
use Rattle.chk_agent.specs.States.{lines_of}
use Rattle.chk_round.specs.Calls.{RoundActs}
use Rattle.chk_round.specs.Done.{ArchivedTo}
use Rattle.chk_round.specs.Following.{HaveLines}
use Rattle.chk_round.specs.Rounded.{AfterRound, RoundTo}
use Rattle.chk_round.specs.Rounds.{RoundDone}
use Rattle.chk_cmd_load.specs.declared.ends.LoadEnd.{LoadEnd}
use Rattle.chk_cmd_load.specs.declared.ends.LoadEnd.TheVariants.{NoMemory, Round, Unclosed}
use Rattle.chk_cmd_load.specs.declared.ends.LoadReport.{LoadReport}
use Rattle.chk_cmd_load.specs.Ends.{of_outside}
use Rattle.chk_cmd_load.specs.Loads.{AfterLoad, IsLoaded, IsReportOf, IsWritersPrint, LoadDone, LoadTo, SaysLine, unsaid, said, unsayable, saying}
use Rattle.chk_cmd_load.specs.Pieces.{HasAppended, WritesAll}
use Rattle.chk_cmd_load.specs.Processes.{IsLoadRun, chukwa, load_logs}
use Rattle.chk_cmd_load.proofs.Facts.{Appended}
use Rattle.chk_cmd_load.proofs.OwnCalls.{say_only}
use Rattle.chk_cmd_load.proofs.Unclosed.{none_unclosed}
use Rattle.chk_cmd_load.proofs.Writing.{appends_lead, says_lead}

-- ---- joining

lead_both : (S : Side) {A B C : History → Type 0} (b a history : History) → Leads S A B a history → Leads S B C b (a ++ history)
    → Leads S A C (b ++ a) history
lead_both S {C = C} b a history x y = record {
  leads =
      λ s h.
      let middle = x.leads (every_early (λ before step. step.own ≡ false → S.others before step) b a history s) h in
      subst C (sym (append_assoc b a history))
      (y.leads (every_late (λ before step. step.own ≡ false → S.others before step) b a history s) middle);
  own = every_join (λ before step. step.own ≡ true → S.own before step) b a history x.own y.own;
}

-- an end outside the round
outside_after : (stamped : List (List ℕ)) (fault : OutsideFault) (h : History) → Legal stamped h
    → AfterLoad stamped (Err (of_outside fault)) h
outside_after stamped (site_failed call) h legal = legal
outside_after stamped no_memory h legal = legal

outside_done : (lines : ℕ) (fault : OutsideFault) (added history : History) → LoadDone lines (Err (of_outside fault)) added history
outside_done lines (site_failed call) added history = tt
outside_done lines no_memory added history = tt

-- the three logs have live lines, and the cluster is `none`, as the round says it of its agent
pub record HaveLogs (v : Rounded) : Type 0 where
  pub lines : HaveLines (codes "Load") load_logs (lines_of v.agent)
  pub cluster : v.agent.cluster ≡ codes "none"

module _ (stamped : List (List ℕ)) (started acting : List Who) (lines : ℕ) where
  abbrev T : Side
  T = Together stamped started acting

  abbrev pub To : Result LoadReport LoadEnd → Option History → Option History → Type 0
  To result old new = Adds old new (LoadTo stamped started acting lines result)

  -- there was no memory before the first call
  pub unbegun : (now : Option History) → To (Err NoMemory) now now
  unbegun now =
      adds_none now (LoadTo stamped started acting lines (Err NoMemory))
      (λ history. record { leads = record { leads = λ others legal. legal; own = tt }; done = λ others legal running. tt })

  module _ (run : IsLoadRun started acting) where
    -- the appends ended the work
    pub cut_told : (fault : OutsideFault) {old new : Option History} → WritesAll chukwa lines (Err fault) old new
        → To (Err (of_outside fault)) old new
    cut_told fault (ps, script, fits) =
        adds_as (LoadTo stamped started acting lines (Err (of_outside fault)))
        (appends_lead stamped started acting run.writes script)
        (λ added history x. record {
          leads = record { leads = λ others legal. outside_after stamped fault (added ++ history) (x.leads others legal); own = x.own };
          done = λ others legal running. outside_done lines fault added history;
        })

    -- all lines were appended, and a round stands behind them
    record OnRound (v : Rounded) (added history : History) : Type 0 where
      rounded : History
      appends : History
      split : added ≡ rounded ++ appends
      appended : HasAppended lines (own_acts appends)
      round : RoundDone (codes "c1") (codes "load") v.agent v.report rounded (appends ++ history)
      live : HaveLogs v
      acts : RoundActs (codes "load") rounded (appends ++ history)

    pub record IsBehind (r : Result Rounded RoundFault) (added history : History) : Type 0 where
      leads : Leads T (Legal stamped) (AfterRound stamped r) added history
      done : (v : Rounded) → r ≡ Ok v → Others (OutsideOf stamped started) added history → Legal stamped history
          → is_stopped (added ++ history) ≡ false → OnRound v added history

    pub behind : (n : ℕ) (r : Result Rounded RoundFault) {old mid new : Option History} → WritesAll chukwa lines (Ok n) old mid
        → Adds old mid (Appended lines) → Adds mid new (RoundTo stamped started acting (codes "load") r)
        → Adds mid new (RoundActs (codes "load")) → ((v : Rounded) → r ≡ Ok v → HaveLogs v)
        → Adds old new (IsBehind r)
    behind n r (ps, script, size, fits) facts told acts live =
        adds_then (IsBehind r)
        (adds_both (λ a h. Leads T (Legal stamped) (Legal stamped) a h × Appended lines a h)
        (appends_lead stamped started acting run.writes script) facts (λ a h x y. (x, y)))
        (adds_both (λ b h. RoundTo stamped started acting (codes "load") r b h × RoundActs (codes "load") b h)
        told acts (λ b h x y. (x, y)))
        (λ a b history x y. record {
          leads = lead_both T b a history x.0 y.0.leads;
          done = λ v is others legal running. record {
            rounded = b;
            appends = a;
            split = refl;
            appended = x.1.done;
            round =
                y.0.done v is (every_late (λ before step. step.own ≡ false → OutsideOf stamped started before step) b a history others)
                (x.0.leads (every_early (λ before step. step.own ≡ false → OutsideOf stamped started before step) b a history others) legal)
                (subst (λ (h : History). is_stopped h ≡ false) (append_assoc b a history) running);
            live = live v is;
            acts = y.1;
          };
        })

    -- the round ended otherwise
    pub round_told : (fault : RoundFault) {old new : Option History} → Adds old new (IsBehind (Err fault)) → To (Err (Round fault)) old new
    round_told fault told =
        adds_as (LoadTo stamped started acting lines (Err (Round fault))) told
        (λ added history x. record { leads = x.leads; done = λ others legal running. tt })

    -- where no sink was listed under writing, all is archived
    archived_in : (v : Rounded) {added history : History} (on : OnRound v added history) → v.report.first_unclosed ≡ None
        → (l : Line)
        → Contains (checkpoint_lines (files_after (on.rounded ++ (on.appends ++ history))) (codes "load")) l → l.live ≡ true
        → ArchivedTo (stream_of (codes "load") l) l.offset on.rounded (on.appends ++ history)
    archived_in v {history = history} on none l one live =
        on.round.each l one live (none_unclosed (codes "load") v on.rounded (on.appends ++ history) on.round none)

    -- the checkpoint has the lines of the agent
    live_in : (v : Rounded) {added history : History} (on : OnRound v added history)
        → HaveLines (codes "Load") load_logs
        (checkpoint_lines (files_after (on.rounded ++ (on.appends ++ history))) (codes "load"))
    live_in v on = subst (HaveLines (codes "Load") load_logs) (sym on.round.lines) on.live.lines

    of_cluster_in : (v : Rounded) {added history : History} (on : OnRound v added history)
        → AllOfCluster (codes "none") (since_start (agent (codes "load")) (on.rounded ++ (on.appends ++ history)))
    of_cluster_in v {history = history} on =
        subst (λ n. AllOfCluster n (since_start (agent (codes "load")) (on.rounded ++ (on.appends ++ history))))
        on.live.cluster on.round.one_cluster

    -- nothing stands behind the round
    loaded : (v : Rounded) (added history : History) → OnRound v added history → IsLoaded lines v added history
    loaded v added history on = record {
      behind = [];
      rounded = on.rounded;
      appends = on.appends;
      split = on.split;
      appended = on.appended;
      round = on.round;
      of_cluster = of_cluster_in v on;
      live = live_in v on;
      acts = on.acts;
      printing = tt;
      archived = archived_in v on;
    }

    -- a sink of another collector was under writing
    pub unclosed_told : (v : Rounded) (name : List ℕ) → v.report.first_unclosed ≡ Some name → {old new : Option History}
        → Adds old new (IsBehind (Ok v)) → To (Err (Unclosed name)) old new
    unclosed_told v name is told =
        adds_as (LoadTo stamped started acting lines (Err (Unclosed name))) told
        (λ added history x. record {
          leads = record { leads = λ others legal. (x.leads.leads others legal).0.legal; own = x.leads.own };
          done = λ others legal running. (v, loaded v added history (x.done v refl others legal running), is);
        })

    -- there was no memory for the summary, or its printing ended the work
    pub unsaid_told : (v : Rounded) (line : List ℕ) (fault : OutsideFault) {old mid new : Option History}
        → Adds old mid (IsBehind (Ok v)) → SaysLine chukwa line (Err fault) mid new → To (Err (of_outside fault)) old new
    unsaid_told v line fault told says =
        adds_then (LoadTo stamped started acting lines (Err (of_outside fault))) told
        (says_lead stamped started acting run.writes says)
        (λ a b history x y. record {
          leads = lead_both T {B = Legal stamped} b a history
              (record { leads = λ others legal. (x.leads.leads others legal).0.legal; own = x.leads.own })
              (record { leads = λ others legal. outside_after stamped fault (b ++ (a ++ history)) (y.leads others legal); own = y.own });
          done = λ others legal running. outside_done lines fault (b ++ a) history;
        })

    -- the print is behind the round, which wasn't stopped
    record Prints (added history : History) : Type 0 where
      leads : Leads T (Legal stamped) (Legal stamped) added history
      only : Owns IsWritersPrint added history
      running : is_stopped history ≡ false

    ran_before : (line : List ℕ) {result : Result (Unit {0}) OutsideFault} {old new : Option History}
        → SaysLine chukwa line result old new → result ≡ Ok tt → Adds old new (λ added history. is_stopped history ≡ false)
    ran_before line unsaid is = absurd (cc)
    ran_before line (said told) is =
        adds_as (λ added history. is_stopped history ≡ false) told
        (λ added history calls.
        let acted : Acted (saying chukwa line) (plain {T = Unit {0}} tt) added history = ran (Ok (plain {T = Unit {0}} tt)) (λ e. cc) calls in
        acted.running)
    ran_before line (unsayable given ends told) is = absurd (cc)

    prints : (line : List ℕ) {old new : Option History} → SaysLine chukwa line (Ok tt) old new → Adds old new Prints
    prints line says =
        adds_both Prints (says_lead stamped started acting run.writes says)
        (adds_both (λ b h. Owns IsWritersPrint b h × (is_stopped h ≡ false)) (say_only line says) (ran_before line says refl) (λ b h x y. (x, y)))
        (λ b h x y. record { leads = x; only = y.0; running = y.1 })

    printed : (v : Rounded) (b a history : History) → OnRound v a history → Owns IsWritersPrint b (a ++ history)
        → IsLoaded lines v (b ++ a) history
    printed v b a history on only = record {
      behind = b;
      rounded = on.rounded;
      appends = on.appends;
      split = ap (λ (t : History). b ++ t) on.split;
      appended = on.appended;
      round = on.round;
      of_cluster = of_cluster_in v on;
      live = live_in v on;
      acts = on.acts;
      archived = archived_in v on;
      printing =
          subst (Owns IsWritersPrint b)
          (ap (λ (t : History). t ++ history) on.split ∙ append_assoc on.rounded on.appends history) only;
    }

    pub all_told : (v : Rounded) (report : LoadReport) (line : List ℕ) → IsReportOf lines v report → {old mid new : Option History}
        → Adds old mid (IsBehind (Ok v)) → SaysLine chukwa line (Ok tt) mid new → To (Ok report) old new
    all_told v report line is told says =
        adds_then (LoadTo stamped started acting lines (Ok report)) told (prints line says)
        (λ a b history x y. record {
          leads = lead_both T b a history (record { leads = λ others legal. (x.leads.leads others legal).0.legal; own = x.leads.own }) y.leads;
          done = λ others legal running. (
            v,
            printed v b a history
                (x.done v refl (every_early (λ before step. step.own ≡ false → OutsideOf stamped started before step) b a history others)
                legal y.running) y.only,
            is,
          );
        })
