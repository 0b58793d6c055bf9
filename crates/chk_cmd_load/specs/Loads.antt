-- What a load leads to.
use Rattle.std.specs.Prelude.{◌≡◌, ℕ, ◌-◌, ◌≤◌, ◌^◌, min, true, false, List, [], ◌∷◌, ◌++◌, codes, Contains, Option, Some, None, Result, Ok, Err}
use Rattle.chk_control.specs.declared.Class.TheVariants.{Plain}
use Rattle.chk_site.specs.declared.acts.Call.TheVariants.{Say}
use Rattle.chk_site.specs.declared.acts.CallFault.{CallFault}
use Rattle.chk_site.specs.declared.acts.OutsideFault.{OutsideFault}
use Rattle.chk_site.specs.declared.acts.OutsideFault.TheVariants.{NoMemory as no_memory}
use Rattle.chk_site.specs.declared.acts.Who.{Who}
use Rattle.chk_site.specs.Acts.{Deed, GrowsLog, Says, deed}
use Rattle.chk_site.specs.History.{Step, History, Others, files_after, is_stopped, since_start}
use Rattle.chk_site.specs.Runs.{Leads, Owns, own_acts}
use Rattle.chk_site.specs.Site.{Adds, Asked, Calls, Ends, EndsIn, Rose, answered, asked, plain}
use Rattle.chk_world.specs.Agents.{AllOfCluster, stream_of}
use Rattle.chk_world.specs.Checkpoints.{Line, checkpoint_lines}
use Rattle.chk_world.specs.Knowing.{agent}
use Rattle.chk_world.specs.Rules.{Legal}
use Rattle.chk_world.specs.Together.{Outside as OutsideOf, Together}
use Rattle.chk_agent.specs.States.{lines_of}
use Rattle.chk_archive.specs.Reporting.{report_view}
use Rattle.chk_cmd_line.specs.Lines.{load_line}
use Rattle.chk_round.specs.declared.faults.RoundFault.{RoundFault}
use Rattle.chk_round.specs.declared.faults.RoundFault.TheVariants as round
use Rattle.chk_round.specs.declared.whole_round.Rounded.{Rounded}
use Rattle.chk_round.specs.Calls.{RoundActs}
use Rattle.chk_round.specs.Done.{ArchivedTo}
use Rattle.chk_round.specs.Faults.{FailsInside}
use Rattle.chk_round.specs.Following.{HaveLines}
use Rattle.chk_round.specs.Lengths.{EndShown}
use Rattle.chk_round.specs.Processes.{IsRunOf, processes}
use Rattle.chk_round.specs.Rounded.{AfterRound, RoundTo}
use Rattle.chk_round.specs.Rounds.{RoundDone}
use Rattle.chk_round.specs.Scripts.{ReadsLogs, RoundReads}
use Rattle.chk_round.specs.Staying.{StaysTo}
use Rattle.chk_cmd_load.specs.declared.ends.LoadEnd.{LoadEnd}
use Rattle.chk_cmd_load.specs.declared.ends.LoadEnd.TheVariants.{Outside, Round, Unclosed}
use Rattle.chk_cmd_load.specs.declared.ends.LoadReport.{LoadReport}
use Rattle.chk_cmd_load.specs.Archived.{archived_of}
use Rattle.chk_cmd_load.specs.Lines.{bytes_of}
use Rattle.chk_cmd_load.specs.Pieces.{AppendsFront, HasAppended, IsPiece, LogPiece, done_print, of_writer}
use Rattle.chk_cmd_load.specs.Processes.{chukwa, load_logs}

-- ---- in a legal history

-- The history is legal. What a round that ended otherwise left is what its own clause says.
abbrev pub AfterLoad : List (List ℕ) → Result LoadReport LoadEnd → History → Type 0
AfterLoad stamped (Err (Round fault)) history = AfterRound stamped (Err fault) history
AfterLoad stamped result history = Legal stamped history

-- the writer prints
abbrev pub IsWritersPrint : History → Step → Type 0
IsWritersPrint before step = (step.act.who ≡ chukwa) × (text : List ℕ) × (deed step.act ≡ Says text)

-- All lines were appended, and the steps behind them are a whole round of the three logs. Behind it
-- the writer prints, and nothing else is done.
pub record IsLoaded (lines : ℕ) (r : Rounded) (added history : History) : Type 0 where
  pub behind : History
  pub rounded : History
  pub appends : History
  pub split : added ≡ behind ++ (rounded ++ appends)
  pub appended : HasAppended lines (own_acts appends)
  pub round : RoundDone (codes "c1") (codes "load") r.agent r.report rounded (appends ++ history)
  pub printing : Owns IsWritersPrint behind (rounded ++ (appends ++ history))
  -- each chunk that the round's agent has sent since its start is of the cluster `none`
  pub of_cluster : AllOfCluster (codes "none")
      (since_start (agent (codes "load")) (rounded ++ (appends ++ history)))
  -- each of the three logs has a live line, but where the checkpoint is full without it
  pub live : HaveLines (codes "Load") load_logs
      (checkpoint_lines (files_after (rounded ++ (appends ++ history))) (codes "load"))
  -- the calls of that round, of which none prints
  pub acts : RoundActs (codes "load") rounded (appends ++ history)
  -- Where no sink was listed under writing, the archive of each live line's stream is its whole log as
  -- it was when the agent read it in the round, and the line's offset is that log's end.
  pub archived : r.report.first_unclosed ≡ None → (l : Line)
      → Contains (checkpoint_lines (files_after (rounded ++ (appends ++ history))) (codes "load")) l → l.live ≡ true
      → ArchivedTo (stream_of (codes "load") l) l.offset rounded (appends ++ history)

-- The report tells the lines, their bytes, and the sum of the archived ends, which is never past
-- 64 bits where logs have fewer than 2^62 bytes.
pub record IsReportOf (lines : ℕ) (r : Rounded) (report : LoadReport) : Type 0 where
  pub lines_are : report.lines ≡ lines
  pub bytes_are : report.bytes ≡ bytes_of lines 3
  pub archived_is : report.archived ≡ min (archived_of (report_view r.report).ends 3) (2 ^ 64 - 1)
  pub unclosed : r.report.first_unclosed ≡ None

-- what a round that is done was summed up to
abbrev pub SummedUp : Rounded → ℕ → ℕ → Result LoadReport LoadEnd → Type 0
SummedUp r lines bytes (Ok report) =
    (report.lines ≡ lines) × (report.bytes ≡ bytes)
    × (report.archived ≡ min (archived_of (report_view r.report).ends 3) (2 ^ 64 - 1))
    × (r.report.first_unclosed ≡ None)
SummedUp r lines bytes (Err (Unclosed name)) = r.report.first_unclosed ≡ Some name
SummedUp r lines bytes (Err fault) = ⊥

-- at Ok, and where a sink of another collector was under writing, the load was done
abbrev pub LoadDone : ℕ → Result LoadReport LoadEnd → History → History → Type 0
LoadDone lines (Ok report) added history =
    (r : Rounded) × IsLoaded lines r added history × IsReportOf lines r report
LoadDone lines (Err (Unclosed name)) added history =
    (r : Rounded) × IsLoaded lines r added history × (r.report.first_unclosed ≡ Some name)
LoadDone lines result added history = Unit {0}

-- from a legal history on
pub record LoadTo (stamped : List (List ℕ)) (started acting : List Who) (lines : ℕ) (result : Result LoadReport LoadEnd)
    (added history : History) : Type 0 where
  pub leads : Leads (Together stamped started acting) (Legal stamped) (AfterLoad stamped result) added history
  pub done : Others (OutsideOf stamped started) added history → Legal stamped history
      → is_stopped (added ++ history) ≡ false → LoadDone lines result added history

-- ---- whatever others do

-- the call that prints a line
abbrev pub saying : Who → List ℕ → Asked
saying who line = asked who Say (line ∷ []) 0 0

-- the line of the summary
abbrev pub summary_line : LoadReport → List ℕ
summary_line r = load_line r.lines r.bytes r.archived

-- the line was printed, or its printing ended the work, or there was no memory for it
pub data SaysLine (who : Who) (line : List ℕ) : Result Unit OutsideFault → Option History → Option History → Type 0 where
  unsaid : {now : Option History} → SaysLine who line (Err no_memory) now now
  said : {old new : Option History} → Adds old new (Calls (saying who line) (Ok (plain {T = Unit {0}} tt)))
      → SaysLine who line (Ok tt) old new
  unsayable : {fault : OutsideFault} {old new : Option History} (given : Result Unit CallFault) → Ends Say given fault
      → Adds old new (Calls (saying who line) (answered plain given)) → SaysLine who line (Err fault) old new

-- The calls of a load by the process that makes them: the writer appends pieces to the three logs
-- and prints, and the processes of the round make its calls.
pub data IsLoadCall : Who → Deed → Type 0 where
  appends : (p : LogPiece) → IsPiece p → IsLoadCall chukwa (GrowsLog p.path p.bytes)
  prints : (text : List ℕ) → IsLoadCall chukwa (Says text)
  rounds : (who : Who) (call : Deed) → Contains (processes (codes "load")) who → IsLoadCall who call

abbrev pub LoadsBy : History → Step → Type 0
LoadsBy before step = IsLoadCall step.act.who (deed step.act)

-- What was appended: all lines, where the load came to its round; and what was asked for is always
-- a front of them.
abbrev pub AppendedSo : ℕ → Result LoadReport LoadEnd → History → History → Type 0
AppendedSo lines (Ok report) added history = HasAppended lines (own_acts added)
AppendedSo lines (Err (Round fault)) added history = HasAppended lines (own_acts added)
AppendedSo lines (Err (Unclosed name)) added history = HasAppended lines (own_acts added)
AppendedSo lines (Err fault) added history = AppendsFront lines (own_acts added)

-- at Ok the writer has printed the summary, and otherwise nothing
abbrev pub PrintedSo : Result LoadReport LoadEnd → History → History → Type 0
PrintedSo (Ok r) added history =
    of_writer done_print (own_acts added) ≡ summary_line r ∷ []
PrintedSo (Err fault) added history = of_writer done_print (own_acts added) ≡ []

-- a call of the load itself that failed is the last one, where the site wasn't stopped
abbrev pub LoadFailsLast : Result LoadReport LoadEnd → History → History → Type 0
LoadFailsLast (Err (Outside call)) added history = is_stopped (added ++ history) ≡ false → EndsIn call added
LoadFailsLast result added history = Unit {0}

-- the writer appends a piece to one of the three logs
abbrev pub IsWritersAppend : History → Step → Type 0
IsWritersAppend before step =
    (step.act.who ≡ chukwa)
    × (p : LogPiece) × IsPiece p × (deed step.act ≡ GrowsLog p.path p.bytes)

-- all lines were appended, and nothing else was called
abbrev pub AppendsLines : ℕ → History → History → Type 0
AppendsLines lines added history =
    HasAppended lines (own_acts added) × Owns IsWritersAppend added history

-- All lines were appended, and the round behind that ended so. A log that grows or shrank shows in
-- the reads of the agent `load`, 1,000,000 of a log at most, a length below an answered offset in the
-- last poll, and damage, a spent number or a refusal in the work that came last. Where the site wasn't stopped, a failed call is the last one or one inside the
-- round, whose calls are those of a round.
pub record EndsAsRound (lines : ℕ) (fault : RoundFault) (old new : Option History) : Type 0 where
  pub mid : Option History
  pub appends : Adds old mid (AppendsLines lines)
  pub script : RoundReads {T = Unit {0}} (codes "load") 1000000 (Err fault) mid new
  pub shown : EndShown {T = Unit {0}} (codes "load") (Err fault) mid new
  pub last : Adds mid new (FailsInside {T = Unit {0}} (Err fault))
  pub acts : Adds mid new (RoundActs (codes "load"))

-- What a done round of the three logs says of its steps, as one that is asked for without an option:
-- a new log is read whole, by fewer than 1,000,000 reads that gave bytes, and its cluster is `none`.
pub record IsRoundOfLogs (r : Rounded) (old new : Option History) : Type 0 where
  pub told : (stamped : List (List ℕ)) (started acting : List Who)
      → IsRunOf (codes "load") started acting
      → Adds old new (RoundTo stamped started acting (codes "load") (Ok r))
  pub read : ReadsLogs (codes "load") (codes "Load") Plain (codes "none") load_logs 1000000 r.agent
      old new
  pub stays : (stamped : List (List ℕ)) (started acting : List Who)
      → IsRunOf (codes "load") started acting
      → Adds old new (StaysTo stamped started (codes "load") (codes "Load") load_logs)
  pub live : HaveLines (codes "Load") load_logs (lines_of r.agent)
  pub acts : Adds old new (RoundActs (codes "load"))

-- All lines were appended, by which the writer made all own calls; then that round was done; and
-- behind it the writer printed at most.
pub record LoadScript (lines : ℕ) (r : Rounded) (old new : Option History) : Type 0 where
  pub mid : Option History
  pub next : Option History
  pub appends : Adds old mid (AppendsLines lines)
  pub round : IsRoundOfLogs r mid next
  pub prints : Adds next new (Owns IsWritersPrint)

-- how the load went: its round was done, or ended so
abbrev pub RoundEndsSo : ℕ → Result LoadReport LoadEnd → Option History → Option History → Type 0
RoundEndsSo lines (Ok report) old new =
    (r : Rounded) × LoadScript lines r old new × IsReportOf lines r report
RoundEndsSo lines (Err (Unclosed name)) old new =
    (r : Rounded) × LoadScript lines r old new × (r.report.first_unclosed ≡ Some name)
RoundEndsSo lines (Err (Round fault)) old new = EndsAsRound lines fault old new
RoundEndsSo lines (Err fault) old new = Unit {0}

-- a load that is done wasn't stopped
abbrev pub EndsRunning : Result LoadReport LoadEnd → History → History → Type 0
EndsRunning (Ok report) added history = is_stopped (added ++ history) ≡ false
EndsRunning (Err fault) added history = Unit {0}

-- only a call of the outside that failed is told where the count rose
abbrev pub LoadCause : ℕ → ℕ → Result LoadReport LoadEnd → Type 0
LoadCause before now (Err (Outside call)) = Rose before now × (before ≤ now)
LoadCause before now (Err (Round (round.Outside call))) = Rose before now × (before ≤ now)
LoadCause before now result = before ≤ now
