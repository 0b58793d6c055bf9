-- What a round leads to.
use Rattle.std.specs.Prelude.{◌≡◌, ℕ, true, false, IsTrue, List, [], ◌∷◌, ◌++◌, codes, Contains, slice_get, Some, Result, Ok, Err}
use Rattle.chk_bytes.specs.Stems.{Stem, is_stem, stem_text}
use Rattle.chk_site.specs.declared.acts.Who.{Who}
use Rattle.chk_site.specs.History.{History, Others, files_after, is_stopped, since_start}
use Rattle.chk_site.specs.Messages.{self_address}
use Rattle.chk_site.specs.Runs.{Leads}
use Rattle.chk_world.specs.Agents.{AllOfCluster, stream_of}
use Rattle.chk_world.specs.Checkpoints.{Line, checkpoint_lines}
use Rattle.chk_world.specs.Committed.{IsAbsent}
use Rattle.chk_world.specs.Knowing.{agent}
use Rattle.chk_world.specs.Names.{SinkFile, file}
use Rattle.chk_world.specs.Places.{AtTold}
use Rattle.chk_world.specs.Rules.{Legal}
use Rattle.chk_world.specs.Sight.{job}
use Rattle.chk_world.specs.Together.{Outside as OutsideOf, Together}
use Rattle.chk_sink.specs.States.{State as Sinks}
use Rattle.chk_agent_adaptor.specs.declared.adaptor.Phase.TheVariants.{Live}
use Rattle.chk_agent_adaptor.specs.Adaptors.{Adaptor, is_past}
use Rattle.chk_agent.specs.Facts.{Matches as AgentMatches}
use Rattle.chk_agent.specs.States.{State as Agents, lines_of}
use Rattle.chk_archive.specs.declared.report.Report.{Report}
use Rattle.chk_round.specs.declared.faults.RoundFault.{RoundFault}
use Rattle.chk_round.specs.declared.faults.RoundFault.TheVariants.{Damaged, Length, Shrank, Spent, Checkpoint, Refused}
use Rattle.chk_round.specs.Closing.{HasRun}
use Rattle.chk_round.specs.Done.{ArchivedTo, AtRead, EndedAt, JobRan, WholeAtLast}
use Rattle.chk_round.specs.Following.{HasPathAlone}
use Rattle.chk_round.specs.Joint.{BothAt, OnlyStopped}
use Rattle.chk_round.specs.LastPolls.{LastPoll}
use Rattle.chk_round.specs.OwnRows.{FromStart}
use Rattle.chk_round.specs.Spent.{IsSpentRound, WhereRunning}
use Rattle.chk_round.specs.Theirs.{NoneOf}

-- each adaptor that isn't past is live
abbrev pub AllSteady : Agents → Type 0
AllSteady a =
    (i : ℕ) (x : Adaptor) → slice_get a.adaptors i ≡ Some x → is_past x.phase ≡ false → x.phase ≡ Live

-- At Ok the history is legal and as the agent knows it, and the job may act on, whose run is done.
-- Nothing of the program's own is ever damaged, no log is shorter than what was read of it, the agent
-- gets the replies that were made, where numbers are spent it is said which, and a length ends it
-- that was told by the last poll, of a sink of the collector that was given up.
abbrev pub AfterRun : List (List ℕ) → List ℕ → Agents → Result Report RoundFault → History → Type 0
AfterRun stamped c b (Ok r) history =
    AgentMatches stamped b history × AtTold stamped job (HasRun r) history
AfterRun stamped c b (Err (Damaged name at)) history = OnlyStopped stamped history
AfterRun stamped c b (Err (Checkpoint at)) history = OnlyStopped stamped history
AfterRun stamped c b (Err (Refused code)) history = OnlyStopped stamped history
AfterRun stamped c b (Err (Length stem got want)) history =
    WhereRunning stamped (LastPoll c stem got want) history
AfterRun stamped c b (Err (Shrank path had is)) history = OnlyStopped stamped history
AfterRun stamped c b (Err (Spent n)) history = WhereRunning stamped (IsSpentRound c n) history
AfterRun stamped c b (Err fault) history = Legal stamped history

-- What a round has done, with the checkpoint's lines those of the agent.
pub record RoundDone (collector source : List ℕ) (b : Agents) (r : Report) (added history : History)
    : Type 0 where
  -- Where the job's listing showed no sink under writing, the archive of each live line's stream is
  -- its whole log as it was when the agent of the stream, which had a line for it, read it in these
  -- steps, and the line's offset is that log's end.
  pub each : (l : Line) → Contains (checkpoint_lines (files_after (added ++ history)) source) l
      → l.live ≡ true → r.unclosed ≡ 0 → ArchivedTo (stream_of source l) l.offset added history
  -- whatever the listing showed, each live line's offset was the end of the whole log at such a read
  pub read : (l : Line) → Contains (checkpoint_lines (files_after (added ++ history)) source) l
      → l.live ≡ true
      → AtRead (stream_of source l) (EndedAt (stream_of source l) l.offset) added history
  -- where no other live line has its path, so it was at the last own read of that log in these steps
  pub last : (l : Line) → Contains (checkpoint_lines (files_after (added ++ history)) source) l
      → l.live ≡ true
      → HasPathAlone l (checkpoint_lines (files_after (added ++ history)) source)
      → WholeAtLast (stream_of source l) l.offset r.unclosed added history
  pub lines : checkpoint_lines (files_after (added ++ history)) source ≡ lines_of b
  -- each chunk that the agent has sent since its start is of its cluster
  pub one_cluster : AllOfCluster b.cluster (since_start (agent source) (added ++ history))
  -- one run of the archive job came to this report, and the job was given the names of the sinks
  -- once in these steps
  pub run : JobRan r.unclosed r.taken r.held r.removed added history
  pub report : HasRun r (added ++ history)
  -- they showed none of the collector's sinks under writing, so that a first one that the report
  -- names is another collector's
  pub theirs : NoneOf collector run.listing.names
  pub first : (x : Stem) → IsTrue (is_stem x) → x.collector ≡ collector
      → r.first_unclosed ≡ Some (stem_text x ++ codes ".chukwa") → ⊥
  -- the collector has left no sink under writing
  pub none_left : (x : Stem) → IsTrue (is_stem x) → x.collector ≡ collector
      → IsAbsent (file (files_after (added ++ history)) (SinkFile x))

-- from a collector and an agent that know the history, whose rows are of sinks of the start
pub record RunsTo (stamped : List (List ℕ)) (started acting : List Who) (s : Sinks) (a b : Agents)
    (result : Result Report RoundFault) (added history : History) : Type 0 where
  pub leads : Leads (Together stamped started acting) (FromStart stamped s a) (AfterRun stamped s.collector b result) added history
  pub source_is : (r : Report) → result ≡ Ok r → b.source ≡ a.source
  pub done : (r : Report) → result ≡ Ok r → Others (OutsideOf stamped started) added history → BothAt stamped s a history
      → is_stopped (added ++ history) ≡ false → RoundDone s.collector a.source b r added history

-- collector and agent have begun, with nothing in the way of a round
pub record IsGathered (source : List ℕ) (s : Sinks) (a : Agents) : Type 0 where
  pub collector_is : s.collector ≡ codes "c1"
  pub source_is : a.source ≡ source
  pub ready : a.ready ≡ true
  pub addresses : a.delivery.ring.addresses ≡ self_address ∷ []
  pub steady : AllSteady a
  pub rows : a.delivery.table.rows ≡ []
  pub number : s.number ≡ 0
