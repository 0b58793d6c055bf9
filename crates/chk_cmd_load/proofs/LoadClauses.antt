-- The clauses of a load, end by end.
use Rattle.std.proofs.Common.{◌≡◌, ℕ, List, [], Ok, Err, Option, Some, Result, subst, sym, ◌∙◌}
use Rattle.std.specs.Prelude.{codes}
use Rattle.chk_control.specs.declared.Class.TheVariants.{Plain}
use Rattle.chk_site.specs.declared.acts.OutsideFault.{OutsideFault}
use Rattle.chk_site.specs.declared.acts.OutsideFault.TheVariants.{Outside as site_failed, NoMemory as no_memory}
use Rattle.chk_site.specs.declared.acts.Who.{Who}
use Rattle.chk_site.specs.History.{History}
use Rattle.chk_site.specs.Runs.{Owns, own_acts}
use Rattle.chk_site.specs.Site.{Adds, LastFailed}
use Rattle.chk_site.proofs.Runs.{adds_as, adds_both, adds_none}
use Rattle.chk_world.specs.Together.{IsByOne}
use Rattle.chk_round.specs.declared.faults.RoundFault.{RoundFault}
use Rattle.chk_round.specs.declared.whole_round.Rounded.{Rounded}
use Rattle.chk_round.specs.declared.words.RoundWords.{RoundWords}
use Rattle.chk_agent.specs.States.{lines_of}
use Rattle.chk_round.specs.Calls.{RoundActs}
use Rattle.chk_round.specs.Faults.{FailsInside}
use Rattle.chk_round.specs.Following.{HaveLines}
use Rattle.chk_round.specs.Lengths.{EndShown}
use Rattle.chk_round.specs.Processes.{IsRunOf, processes}
use Rattle.chk_round.specs.Rounded.{RoundTo}
use Rattle.chk_round.specs.Scripts.{ReadsLogs, RoundReads}
use Rattle.chk_round.specs.Staying.{StaysTo}
use Rattle.chk_cmd_load.specs.declared.ends.LoadEnd.{LoadEnd}
use Rattle.chk_cmd_load.specs.declared.ends.LoadEnd.TheVariants.{NoMemory, Outside, Round, Unclosed}
use Rattle.chk_cmd_load.specs.declared.ends.LoadReport.{LoadReport}
use Rattle.chk_cmd_load.specs.Ends.{of_outside}
use Rattle.chk_cmd_load.specs.Loads.{AppendedSo, AppendsLines, EndsRunning, IsReportOf, IsRoundOfLogs, IsWritersPrint, LoadFailsLast, LoadScript, LoadTo, LoadsBy, PrintedSo, RoundEndsSo, SaysLine, SummedUp, summary_line}
use Rattle.chk_cmd_load.specs.Pieces.{AppendsFront, WritesAll}
use Rattle.chk_cmd_load.specs.Processes.{IsLoadRound, IsLoadRun, chukwa, load_logs}
use Rattle.chk_cmd_load.proofs.Facts.{Appended, appends_all, appends_cut, then_round, then_say}
use Rattle.chk_cmd_load.proofs.OwnCalls.{appends_only, say_only}
use Rattle.chk_cmd_load.proofs.Told.{HaveLogs, IsBehind, all_told, behind, cut_told, round_told, unclosed_told, unsaid_told}

-- what a load says of its result
pub record Clauses (lines : ℕ) (result : Result LoadReport LoadEnd) (old new : Option History) : Type 0 where
  pub told : (stamped : List (List ℕ)) (started acting : List Who) → IsLoadRun started acting
      → Adds old new (LoadTo stamped started acting lines result)
  pub appends : Adds old new (AppendedSo lines result)
  pub own : Adds old new (Owns LoadsBy)
  pub prints : Adds old new (PrintedSo result)
  pub runs : Adds old new (EndsRunning result)
  pub last : Adds old new (LoadFailsLast result)

-- what the round says of its result
abbrev pub RoundTold : List ℕ → Result Rounded RoundFault → Option History → Option History → Type 0
RoundTold source r old new =
    (stamped : List (List ℕ)) (started acting : List Who) → IsRunOf source started acting
    → Adds old new (RoundTo stamped started acting source r)

-- its own steps are by its processes
round_by : (r : Result Rounded RoundFault) {old new : Option History} → RoundTold (codes "load") r old new
    → Adds old new (Owns (IsByOne (processes (codes "load"))))
round_by r told =
    let three : List Who = processes (codes "load") in
    adds_as (Owns (IsByOne three))
    (told [] three three (record { started_all = λ who one. one; acts_all = λ who one. one })) (λ added history x. x.leads.own)

outside_appended : (lines : ℕ) (fault : OutsideFault) (added history : History) → AppendsFront lines (own_acts added)
    → AppendedSo lines (Err (of_outside fault)) added history
outside_appended lines (site_failed call) added history front = front
outside_appended lines no_memory added history front = front

outside_last : (fault : OutsideFault) (added history : History) → LastFailed {T = Unit {0}} (Err fault) added history
    → LoadFailsLast (Err (of_outside fault)) added history
outside_last (site_failed call) added history last = last
outside_last no_memory added history last = tt

module _ (lines : ℕ) where
  cut_clauses : (fault : OutsideFault) {old new : Option History} → WritesAll chukwa lines (Err fault) old new
      → Clauses lines (Err (of_outside fault)) old new
  cut_clauses fault writes =
      let facts = appends_cut lines fault writes in
      record {
        told = λ stamped started acting run. cut_told stamped started acting lines run fault writes;
        appends = adds_as (AppendedSo lines (Err (of_outside fault))) facts (λ a h x. outside_appended lines fault a h x.front);
        own = adds_as (Owns LoadsBy) facts (λ a h x. x.own);
        prints = adds_as (PrintedSo (Err (of_outside fault))) facts (λ a h x. x.silent);
        runs = adds_as (EndsRunning (Err (of_outside fault))) facts (λ a h x. tt);
        last = adds_as (LoadFailsLast (Err (of_outside fault))) facts (λ a h x. outside_last fault a h x.last);
      }

  module _ (n : ℕ) {old mid late : Option History} (writes : WritesAll chukwa lines (Ok n) old mid) where
    facts : (r : Result Rounded RoundFault) → RoundTold (codes "load") r mid late → Adds old late (Appended lines)
    facts r told = then_round lines (appends_all lines n writes) (round_by r told)

    round_clauses : (fault : RoundFault) → RoundTold (codes "load") (Err fault) mid late
        → Adds mid late (RoundActs (codes "load")) → Clauses lines (Err (Round fault)) old late
    round_clauses fault told acts = record {
      told = λ stamped started acting run.
          round_told stamped started acting lines run fault
          (behind stamped started acting lines run n (Err fault) writes (appends_all lines n writes) (told stamped started acting run.round)
          acts (λ v is. absurd (let z : ⊥ = cc in z)));
      appends = adds_as (AppendedSo lines (Err (Round fault))) (facts (Err fault) told) (λ a h x. x.done);
      own = adds_as (Owns LoadsBy) (facts (Err fault) told) (λ a h x. x.own);
      prints = adds_as (PrintedSo (Err (Round fault))) (facts (Err fault) told) (λ a h x. x.silent);
      runs = adds_as (EndsRunning (Err (Round fault))) (facts (Err fault) told) (λ a h x. tt);
      last = adds_as (LoadFailsLast (Err (Round fault))) (facts (Err fault) told) (λ a h x. tt);
    }

    module _ (v : Rounded) (told : RoundTold (codes "load") (Ok v) mid late)
        (acts : Adds mid late (RoundActs (codes "load"))) (live : HaveLogs v) where
      on_round : (stamped : List (List ℕ)) (started acting : List Who) (run : IsLoadRun started acting)
          → Adds old late (IsBehind stamped started acting lines run (Ok v))
      on_round stamped started acting run =
          behind stamped started acting lines run n (Ok v) writes (appends_all lines n writes)
          (told stamped started acting run.round) acts
          (λ w is. subst HaveLogs (let same : v ≡ w = cc in same) live)

      unclosed_clauses : (name : List ℕ) → v.report.first_unclosed ≡ Some name → Clauses lines (Err (Unclosed name)) old late
      unclosed_clauses name is = record {
        told = λ stamped started acting run.
            unclosed_told stamped started acting lines run v name is
            (on_round stamped started acting run);
        appends = adds_as (AppendedSo lines (Err (Unclosed name))) (facts (Ok v) told) (λ a h x. x.done);
        own = adds_as (Owns LoadsBy) (facts (Ok v) told) (λ a h x. x.own);
        prints = adds_as (PrintedSo (Err (Unclosed name))) (facts (Ok v) told) (λ a h x. x.silent);
        runs = adds_as (EndsRunning (Err (Unclosed name))) (facts (Ok v) told) (λ a h x. tt);
        last = adds_as (LoadFailsLast (Err (Unclosed name))) (facts (Ok v) told) (λ a h x. tt);
      }

      unsaid_clauses : (line : List ℕ) (fault : OutsideFault) {new : Option History} → SaysLine chukwa line (Err fault) late new
          → Clauses lines (Err (of_outside fault)) old new
      unsaid_clauses line fault says =
          let whole = then_say lines line (facts (Ok v) told) says in
          record {
            told = λ stamped started acting run.
                unsaid_told stamped started acting lines run v line fault
                (on_round stamped started acting run) says;
            appends = adds_as (AppendedSo lines (Err (of_outside fault))) whole (λ a h x. outside_appended lines fault a h x.front);
            own = adds_as (Owns LoadsBy) whole (λ a h x. x.own);
            prints = adds_as (PrintedSo (Err (of_outside fault))) whole (λ a h x. x.said);
            runs = adds_as (EndsRunning (Err (of_outside fault))) whole (λ a h x. tt);
            last = adds_as (LoadFailsLast (Err (of_outside fault))) whole (λ a h x. outside_last fault a h x.last);
          }

      done_clauses : (report : LoadReport) → IsReportOf lines v report → {new : Option History}
          → SaysLine chukwa (summary_line report) (Ok tt) late new → Clauses lines (Ok report) old new
      done_clauses report is says =
          let whole = then_say lines (summary_line report) (facts (Ok v) told) says in
          record {
            told = λ stamped started acting run.
                all_told stamped started acting lines run v report (summary_line report) is
                (on_round stamped started acting run) says;
            appends = adds_as (AppendedSo lines (Ok report)) whole (λ a h x. x.done);
            own = adds_as (Owns LoadsBy) whole (λ a h x. x.own);
            prints = adds_as (PrintedSo (Ok report)) whole (λ a h x. x.said);
            runs = adds_as (EndsRunning (Ok report)) whole (λ a h x. x.running);
            last = adds_as (LoadFailsLast (Ok report)) whole (λ a h x. tt);
          }

-- ---- by the writer and the source that are given

module _ (lines : ℕ) (who : Who) (by : who ≡ chukwa) where
  written : (r : Result ℕ OutsideFault) (old new : Option History) → WritesAll who lines r old new → WritesAll chukwa lines r old new
  written r old new w = subst (λ (p : Who). WritesAll p lines r old new) by w

  pub cut_end : (fault : OutsideFault) {old new : Option History} → WritesAll who lines (Err fault) old new
      → Clauses lines (Err (of_outside fault)) old new
  cut_end fault {old = old} {new = new} writes = cut_clauses lines fault (written (Err fault) old new writes)

  module _ (n : ℕ) {old mid late : Option History} (writes : WritesAll who lines (Ok n) old mid) (words : RoundWords)
      (are : IsLoadRound words) where
    rounded : (r : Result Rounded RoundFault) → RoundTold words.source r mid late → RoundTold (codes "load") r mid late
    rounded r told = subst (λ (s : List ℕ). RoundTold s r mid late) are.source told

    by_load : Adds mid late (RoundActs words.source) → Adds mid late (RoundActs (codes "load"))
    by_load acts = subst (λ (s : List ℕ). Adds mid late (RoundActs s)) are.source acts

    pub round_end : (fault : RoundFault) → RoundTold words.source (Err fault) mid late
        → Adds mid late (RoundActs words.source) → Clauses lines (Err (Round fault)) old late
    round_end fault told acts =
        round_clauses lines n (written (Ok n) old mid writes) fault (rounded (Err fault) told) (by_load acts)

    module _ (v : Rounded) (told : RoundTold words.source (Ok v) mid late) (acts : Adds mid late (RoundActs words.source))
        (live : HaveLines words.kind words.logs.items (lines_of v.agent)) (same : v.agent.cluster ≡ words.cluster) where
      of_logs : HaveLogs v
      of_logs = record {
        lines =
            subst (λ (k : List ℕ). HaveLines k load_logs (lines_of v.agent)) are.kind
            (subst (λ (ls : List (List ℕ)). HaveLines words.kind ls (lines_of v.agent)) are.logs live);
        cluster = same ∙ are.cluster;
      }

      pub unclosed_end : (e : LoadEnd) → SummedUp v lines n (Err e) → Clauses lines (Err e) old late
      unclosed_end (Unclosed name) is =
          unclosed_clauses lines n (written (Ok n) old mid writes) v (rounded (Ok v) told) (by_load acts) of_logs name is
      unclosed_end (Outside call) is = absurd is
      unclosed_end NoMemory is = absurd is
      unclosed_end (Round fault) is = absurd is

      said_by : (line : List ℕ) (r : Result (Unit {0}) OutsideFault) (new : Option History) → SaysLine who line r late new
          → SaysLine chukwa line r late new
      said_by line r new says = subst (λ (p : Who). SaysLine p line r late new) by says

      pub unsaid_end : (line : List ℕ) (fault : OutsideFault) {new : Option History} → SaysLine who line (Err fault) late new
          → Clauses lines (Err (of_outside fault)) old new
      unsaid_end line fault {new = new} says =
          unsaid_clauses lines n (written (Ok n) old mid writes) v (rounded (Ok v) told) (by_load acts) of_logs line fault
          (said_by line (Err fault) new says)

      pub done_end : (report : LoadReport) → SummedUp v lines n (Ok report) → {new : Option History}
          → SaysLine who (summary_line report) (Ok tt) late new → Clauses lines (Ok report) old new
      done_end report is {new = new} says =
          done_clauses lines n (written (Ok n) old mid writes) v (rounded (Ok v) told) (by_load acts) of_logs report
          (record { lines_are = is.0; bytes_are = is.1 ∙ writes.2; archived_is = is.2; unclosed = is.3 })
          (said_by (summary_line report) (Ok tt) new says)

-- ---- the appends

lines_appended : (lines : ℕ) (who : Who) (by : who ≡ chukwa) (n : ℕ) {old mid : Option History}
    → WritesAll who lines (Ok n) old mid → Adds old mid (AppendsLines lines)
lines_appended lines who by n {old = old} {mid = mid} writes =
    let w = written lines who by (Ok n) old mid writes in
    adds_both (AppendsLines lines) (appends_all lines n w) (appends_only w.1)
    (λ a h x y. (x.done, y))

-- ---- its round

-- what the round says of its steps, with these words
pub record WholeSays (w : RoundWords) (r : Rounded) (old new : Option History) : Type 0 where
  pub told : (stamped : List (List ℕ)) (started acting : List Who) → IsRunOf w.source started acting
      → Adds old new (RoundTo stamped started acting w.source (Ok r))
  pub reads : ReadsLogs w.source w.kind w.class w.cluster w.logs.items w.reads r.agent old new
  pub stays : (stamped : List (List ℕ)) (started acting : List Who) → IsRunOf w.source started acting
      → Adds old new (StaysTo stamped started w.source w.kind w.logs.items)
  pub live : HaveLines w.kind w.logs.items (lines_of r.agent)
  pub acts : Adds old new (RoundActs w.source)

module _ (w : RoundWords) (are : IsLoadRound w) (r : Rounded) {old new : Option History}
    (says : WholeSays w r old new) where
  by_words : (started acting : List Who) → IsRunOf (codes "load") started acting
      → IsRunOf w.source started acting
  by_words started acting run = subst (λ s. IsRunOf s started acting) (sym are.source) run

  round_of_logs : IsRoundOfLogs r old new
  round_of_logs = record {
    told = λ stamped started acting run.
        subst (λ s. Adds old new (RoundTo stamped started acting s (Ok r))) are.source
        (says.told stamped started acting (by_words started acting run));
    read =
        subst (λ s. ReadsLogs s (codes "Load") Plain (codes "none") load_logs 1000000 r.agent old new)
        are.source
        (subst (λ k. ReadsLogs w.source k Plain (codes "none") load_logs 1000000 r.agent old new)
        are.kind
        (subst (λ k. ReadsLogs w.source w.kind k (codes "none") load_logs 1000000 r.agent old new)
        are.class
        (subst (λ k. ReadsLogs w.source w.kind w.class k load_logs 1000000 r.agent old new)
        are.cluster
        (subst (λ k. ReadsLogs w.source w.kind w.class w.cluster k 1000000 r.agent old new) are.logs
        (subst (λ k. ReadsLogs w.source w.kind w.class w.cluster w.logs.items k r.agent old new)
        are.reads says.reads)))));
    stays = λ stamped started acting run.
        subst (λ s. Adds old new (StaysTo stamped started s (codes "Load") load_logs)) are.source
        (subst (λ k. Adds old new (StaysTo stamped started w.source k load_logs)) are.kind
        (subst (λ k. Adds old new (StaysTo stamped started w.source w.kind k)) are.logs
        (says.stays stamped started acting (by_words started acting run))));
    live =
        subst (λ k. HaveLines k load_logs (lines_of r.agent)) are.kind
        (subst (λ k. HaveLines w.kind k (lines_of r.agent)) are.logs says.live);
    acts = subst (λ s. Adds old new (RoundActs s)) are.source says.acts;
  }

module _ (lines : ℕ) (who : Who) (by : who ≡ chukwa) (n : ℕ) {old mid next : Option History}
    (writes : WritesAll who lines (Ok n) old mid) (w : RoundWords) (are : IsLoadRound w)
    (r : Rounded) (says : WholeSays w r mid next) where
  -- nothing stands behind the round
  pub loaded_so : LoadScript lines r old next
  loaded_so = record {
    mid = mid;
    next = next;
    appends = lines_appended lines who by n writes;
    round = round_of_logs w are r says;
    prints = adds_none next (Owns IsWritersPrint) (λ history. tt);
  }

  pub unclosed_so : (e : LoadEnd) → SummedUp r lines n (Err e) → RoundEndsSo lines (Err e) old next
  unclosed_so (Unclosed name) is = (r, loaded_so, is)
  unclosed_so (Outside call) is = absurd is
  unclosed_so NoMemory is = absurd is
  unclosed_so (Round fault) is = absurd is

  pub done_so : (report : LoadReport) → SummedUp r lines n (Ok report) → {new : Option History}
      → SaysLine who (summary_line report) (Ok tt) next new
      → RoundEndsSo lines (Ok report) old new
  done_so report is {new = new} says_line = (
    r,
    record {
      mid = mid;
      next = next;
      appends = lines_appended lines who by n writes;
      round = round_of_logs w are r says;
      prints = say_only (summary_line report)
          (subst (λ (p : Who). SaysLine p (summary_line report) (Ok tt) next new) by says_line);
    },
    record { lines_are = is.0; bytes_are = is.1 ∙ writes.2; archived_is = is.2; unclosed = is.3 },
  )

-- ---- how its round ended

-- what the round says of its fault, with these words
pub record RoundSays (source : List ℕ) (reads : ℕ) (fault : RoundFault) (old new : Option History) : Type 0 where
  pub script : RoundReads {T = Unit {0}} source reads (Err fault) old new
  pub shown : EndShown {T = Unit {0}} source (Err fault) old new
  pub last : Adds old new (FailsInside {T = Unit {0}} (Err fault))
  pub acts : Adds old new (RoundActs source)

pub round_ends : (lines : ℕ) (who : Who) (by : who ≡ chukwa) (n : ℕ) {old mid new : Option History}
    → WritesAll who lines (Ok n) old mid → (words : RoundWords) → IsLoadRound words → (fault : RoundFault)
    → RoundSays words.source words.reads fault mid new → RoundEndsSo lines (Err (Round fault)) old new
round_ends lines who by n {old = old} {mid = mid} {new = new} writes words are fault says =
    let said : RoundSays (codes "load") 1000000 fault mid new =
    subst (λ (s : List ℕ). RoundSays s 1000000 fault mid new) are.source
    (subst (λ (k : ℕ). RoundSays words.source k fault mid new) are.reads says) in
    record {
      mid = mid;
      appends = lines_appended lines who by n writes;
      script = said.script;
      shown = said.shown;
      last = said.last;
      acts = said.acts;
    }

-- another end isn't one of the round
pub outside_ends : (lines : ℕ) (fault : OutsideFault) (old new : Option History) → RoundEndsSo lines (Err (of_outside fault)) old new
outside_ends lines (site_failed call) old new = tt
outside_ends lines no_memory old new = tt
