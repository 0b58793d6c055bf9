-- A round as a run.
use Rattle.std.specs.Prelude.{◌≡◌, ℕ, ◌≤◌, true, false, List, ◌++◌, codes, Contains, IfOk, Option, Result, Ok, Err}
use Rattle.chk_control.specs.declared.Class.{Class}
use Rattle.chk_site.specs.declared.acts.Who.{Who}
use Rattle.chk_site.specs.declared.acts.OutsideFault.{OutsideFault}
use Rattle.chk_site.specs.History.{History, Others, files_after, is_stopped, since_start}
use Rattle.chk_site.specs.Runs.{Leads, own_acts}
use Rattle.chk_site.specs.Site.{Adds, Rose}
use Rattle.chk_world.specs.Agents.{AllOfCluster, stream_of}
use Rattle.chk_world.specs.Checkpoints.{Line, checkpoint_lines}
use Rattle.chk_world.specs.Knowing.{agent}
use Rattle.chk_world.specs.Rules.{Legal}
use Rattle.chk_world.specs.Sight.{job}
use Rattle.chk_world.specs.Together.{Outside as OutsideOf, Together}
use Rattle.chk_agent.specs.States.{lines_of}
use Rattle.chk_archive.specs.Reporting.{report_view}
use Rattle.chk_cmd_output.specs.Printing.{printed}
use Rattle.chk_round.specs.declared.faults.RoundFault.{RoundFault}
use Rattle.chk_round.specs.declared.faults.RoundFault.TheVariants.{Outside, NoMemory, Damaged, Length, Shrank, Spent, Checkpoint, Refused}
use Rattle.chk_round.specs.declared.whole_round.Rounded.{Rounded}
use Rattle.chk_round.specs.Calls.{RoundActs}
use Rattle.chk_round.specs.Done.{ArchivedTo}
use Rattle.chk_round.specs.Faults.{FailsInside}
use Rattle.chk_round.specs.Following.{HaveLines}
use Rattle.chk_round.specs.Joint.{OnlyStopped}
use Rattle.chk_round.specs.Lengths.{EndShown}
use Rattle.chk_round.specs.Processes.{IsRunOf}
use Rattle.chk_round.specs.Rounded.{RoundTo}
use Rattle.chk_round.specs.Rounds.{RoundDone}
use Rattle.chk_round.specs.Scripts.{ReadsLogs, RoundReads}
use Rattle.chk_round.specs.LastPolls.{LastPoll}
use Rattle.chk_round.specs.Spent.{IsSpentRound, WhereRunning}
use Rattle.chk_round.specs.Staying.{StaysLive, StaysTo}
use Rattle.chk_cmd_round.specs.declared.ends.RoundEnd.{RoundEnd}
use Rattle.chk_cmd_round.specs.declared.ends.RoundEnd.TheVariants.{Fault, Unclosed}
use Rattle.chk_cmd_round.specs.Telling.{Tells, end_by, print_end, round_prints}

-- ---- the script

-- What a round of this source says of its steps, which reads these logs under this type. A log
-- that grows or shrank shows in the reads that the source's agent made, so many of a log at most,
-- a length below an answered offset in the last poll behind a commit, and damage, a spent number or
-- a refusal in the work that came last. Where it is done, the logs were added behind the agent's
-- start, a new one with this class, each live log was read to its end by fewer than so many reads
-- that gave bytes, none was read behind that, and just the logs and what was live at the start are
-- live.
pub record IsRound (source kind : List ℕ) (class : Class) (cluster : List ℕ)
    (logs : List (List ℕ)) (reads : ℕ)
    (result : Result Rounded RoundFault) (old new : Option History) : Type 0 where
  pub told : (stamped : List (List ℕ)) (started acting : List Who) → IsRunOf source started acting
      → Adds old new (RoundTo stamped started acting source result)
  pub live : IfOk result (λ r. HaveLines kind logs (lines_of r.agent))
  pub script : RoundReads source reads result old new
  pub read : IfOk result (λ r. ReadsLogs source kind class cluster logs reads r.agent old new)
  pub stays : IfOk result (λ r. (stamped : List (List ℕ)) (started acting : List Who)
      → IsRunOf source started acting → Adds old new (StaysTo stamped started source kind logs))
  pub shown : EndShown source result old new
  pub last : Adds old new (FailsInside result)
  pub acts : Adds old new (RoundActs source)

-- the lines of a round
abbrev pub TellsRound : List ℕ → Rounded → Result (Unit {0}) OutsideFault → Option History → Option History → Type 0
TellsRound source r result old new =
    Tells (agent source) job (lines_of r.agent) (report_view r.report) result old new

-- A round, and where it is done its lines, up to one that wasn't printed. Nothing else is done.
pub data RunsRound (source kind : List ℕ) (class : Class) (cluster : List ℕ)
    (logs : List (List ℕ)) (reads : ℕ) : Result (Unit {0}) RoundEnd → Option History → Option History → Type 0 where
  unbegun : {now : Option History}
      → RunsRound source kind class cluster logs reads (Err (Fault NoMemory)) now now
  undone : {old new : Option History} (fault : RoundFault)
      → IsRound source kind class cluster logs reads (Err fault) old new
      → RunsRound source kind class cluster logs reads (Err (Fault fault)) old new
  untold : {old mid new : Option History} (r : Rounded) (fault : OutsideFault)
      → IsRound source kind class cluster logs reads (Ok r) old mid → TellsRound source r (Err fault) mid new
      → RunsRound source kind class cluster logs reads (Err (print_end fault)) old new
  ran : {old mid new : Option History} (r : Rounded)
      → IsRound source kind class cluster logs reads (Ok r) old mid → TellsRound source r (Ok tt) mid new
      → RunsRound source kind class cluster logs reads (end_by r.report.first_unclosed) old new

-- where the site wasn't stopped, the call that failed is the last one, or one inside the round
abbrev pub EndsByCall : Result (Unit {0}) RoundEnd → History → History → Type 0
EndsByCall (Err (Fault fault)) added history = FailsInside {T = Unit {0}} (Err fault) added history
EndsByCall result added history = Unit {0}

-- ---- from a legal history

-- The history is legal. Nothing of the program's own is ever damaged, no log is shorter than what was
-- read of it, the agent gets the replies that were made, where numbers are spent it is said which, and
-- a length ends it that was told by the last poll, of a sink of `c1` that was given up,
-- since one of its start was full.
abbrev pub AfterRun : List (List ℕ) → Result (Unit {0}) RoundEnd → History → Type 0
AfterRun stamped (Err (Fault (Damaged name at))) history = OnlyStopped stamped history
AfterRun stamped (Err (Fault (Checkpoint at))) history = OnlyStopped stamped history
AfterRun stamped (Err (Fault (Refused code))) history = OnlyStopped stamped history
AfterRun stamped (Err (Fault (Length stem got want))) history =
    WhereRunning stamped (LastPoll (codes "c1") stem got want) history
AfterRun stamped (Err (Fault (Shrank path had is))) history = OnlyStopped stamped history
AfterRun stamped (Err (Fault (Spent n))) history =
    WhereRunning stamped (IsSpentRound (codes "c1") n) history
AfterRun stamped result history = Legal stamped history

-- all was done and printed, whatever other collectors have under writing
abbrev pub IsAllTold : Result (Unit {0}) RoundEnd → Type 0
IsAllTold (Ok value) = Unit {0}
IsAllTold (Err (Unclosed name)) = Unit {0}
IsAllTold (Err (Fault fault)) = ⊥

-- The round was done in the first of these steps, and in those behind it just its lines were printed. Their
-- numbers are those of the live lines of the checkpoint, and of the archive run.
pub record DoneAndTold (source kind cluster : List ℕ) (logs : List (List ℕ))
    (result : Result (Unit {0}) RoundEnd) (added history : History) : Type 0 where
  pub rounded : Rounded
  pub tail : History
  pub body : History
  pub split : added ≡ tail ++ body
  pub done : RoundDone (codes "c1") source rounded.agent rounded.report body history
  -- each chunk that the agent has sent since its start is of this cluster
  pub of_cluster : AllOfCluster cluster (since_start (agent source) (body ++ history))
  -- each of the logs has a live line, but where the checkpoint is full without it
  pub live : HaveLines kind logs (checkpoint_lines (files_after (body ++ history)) source)
  -- each stream that was live behind the agent's start has one, and no further one but the logs'
  pub stays : StaysLive source kind logs body history
  pub printed_is : printed (own_acts tail)
      ≡ round_prints (agent source) job (checkpoint_lines (files_after (body ++ history)) source) (report_view rounded.report)
  pub ends : result ≡ end_by rounded.report.first_unclosed
  -- where it ended well, no sink was listed under writing, and the archive of each live line's stream
  -- is its whole log as it was when the agent read it in the round; the line's offset is its end
  pub closed : result ≡ Ok tt → rounded.report.unclosed ≡ 0
  pub archived : result ≡ Ok tt → (l : Line) → Contains (checkpoint_lines (files_after (body ++ history)) source) l
      → l.live ≡ true → ArchivedTo (stream_of source l) l.offset body history

-- from a legal history on
pub record RunsTo (stamped : List (List ℕ)) (started acting : List Who) (source kind cluster : List ℕ)
    (logs : List (List ℕ)) (result : Result (Unit {0}) RoundEnd) (added history : History) : Type 0 where
  pub leads : Leads (Together stamped started acting) (Legal stamped) (AfterRun stamped result) added history
  pub running : IsAllTold result → is_stopped (added ++ history) ≡ false
  pub done : IsAllTold result → Others (OutsideOf stamped started) added history → Legal stamped history
      → DoneAndTold source kind cluster logs result added history

-- only a call of the outside that failed is told where the count rose
abbrev pub RunCause : ℕ → ℕ → Result (Unit {0}) RoundEnd → Type 0
RunCause before now (Err (Fault (Outside call))) = Rose before now × (before ≤ now)
RunCause before now result = before ≤ now
