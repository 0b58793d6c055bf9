-- What the status 0 says, command by command.
use Rattle.std.specs.Prelude.{◌≡◌, ℕ, ◌≤◌, List, [], ◌∷◌, ◌++◌, length, map, count_by, Option, Some, Result, Ok}
use Rattle.chk_site.specs.declared.acts.Act.{Act}
use Rattle.chk_site.specs.Files.{File}
use Rattle.chk_site.specs.Effect.{IsSmallFile}
use Rattle.chk_site.specs.Acts.{Deed, Reads, Says, deed}
use Rattle.chk_site.specs.History.{History, Every, Others, files_after}
use Rattle.chk_site.specs.Runs.{own_acts}
use Rattle.chk_replace.specs.Replace.{LeavesFile}
use Rattle.chk_replace.specs.Load.{asks_at}
use Rattle.chk_failover.specs.Turns.{Turns}
use Rattle.chk_agent.specs.declared.agent.Rules.{Rules}
use Rattle.chk_agent_run.specs.declared.faults.RunFault.{RunFault}
use Rattle.chk_agent_run.specs.declared.run.Work.{Work}
use Rattle.chk_agent_run.specs.declared.turn.Ended.{Ended}
use Rattle.chk_agent_run.specs.Runs.{HasRun}
use Rattle.chk_collector_run.specs.Legality.{FindsCommitted}
use Rattle.chk_collector_run.specs.Runs.{CollectorRan, IsNoneOpen}
use Rattle.chk_world.specs.Books.{book_of}
use Rattle.chk_world.specs.Names.{ArchiveFolder}
use Rattle.chk_world.specs.Sight.{job}
use Rattle.chk_agent_run.specs.declared.run.TheConstants.{ROWS, QUEUE}
use Rattle.chk_archive.specs.Archived.{RunDone, lists_sinks}
use Rattle.chk_archive.specs.Reports.{Report}
use Rattle.chk_demux.specs.declared.report.DemuxReport.{DemuxReport}
use Rattle.chk_cmd_output.specs.Printing.{by, printed}
use Rattle.chk_cmd_archive.specs.Telling.{ArchivesAndTells, report_lines}
use Rattle.chk_cmd_line.specs.Commands.{AgentAsked, CollectorAsked}
use Rattle.chk_cmd_salvage.specs.Printing.{IsWhole, bytes_or_none, said, print_limit}
use Rattle.chk_cmd_line.specs.Commands.{Asked, Round, Agent, Collector, Drain, Archive, Demux, Salvage, Load, Udp, Subscribe, Join}
use Rattle.chukwa_run.specs.Demuxing.{DemuxedOnce, DemuxWhole}
use Rattle.chukwa_run.specs.Loading.{LoadDid, LoadWhole}
use Rattle.chukwa_run.specs.RoundRuns.{RoundScript, RoundWhole}
use Rattle.chukwa_run.specs.Processes.{the_agent, the_collector}
use Rattle.chk_cmd_load.specs.Processes.{chukwa}
use Rattle.chukwa_run.specs.Draining.{DrainScript, DrainWhole}
use Rattle.chukwa_run.specs.Datagrams.{UdpWhole}
use Rattle.chukwa_run.specs.Subscribing.{SubscribeWhole}
use Rattle.chukwa_run.specs.Joining.{JoinWhole}
use Rattle.chukwa_run.specs.Teeing.{TeesRead}
use Rattle.chk_tee_sender.specs.declared.Subscriber.{Subscriber}

-- ---- a salvage

-- where no step of others names the file, what was printed is the lines of what can be read of it
abbrev pub SalvagePrinted : List ℕ → History → History → Type 0
SalvagePrinted file earlier added =
    (content : Option File) → IsSmallFile content → Others (LeavesFile file) added earlier
    → files_after earlier file ≡ content → IsWhole (bytes_or_none content) (said (own_acts added))

-- the call reads the file, in a piece of at most 1,048,576 bytes, or prints at most 65,536 bytes
abbrev pub ReadsOrPrints : List ℕ → Deed → Type 0
ReadsOrPrints file (Reads name at max) = (name ≡ file) × (max ≡ asks_at at)
ReadsOrPrints file (Says text) = length text ≤ print_limit
ReadsOrPrints file call = ⊥

-- all of these acts are such ones of the writer
abbrev pub AreSalvageActs : List ℕ → List Act → Type 0
AreSalvageActs file [] = Unit {0}
AreSalvageActs file (act ∷ acts) = (act.who ≡ chukwa) × ReadsOrPrints file (deed act) × AreSalvageActs file acts

-- ---- an agent

-- the ring stands at its first address
abbrev pub ring_of : AgentAsked → Turns
ring_of w = record { addresses = w.collectors; place = 0; failures = 0 }

abbrev pub rules_of : AgentAsked → Rules
rules_of w = record { rows = ROWS; queue = QUEUE; poll = w.poll; expire = w.expire; cluster = w.cluster }

abbrev pub work_of : AgentAsked → Work
work_of w = record { initial = w.initial; control = w.control; turns = w.turns; pause = w.pause }

-- the script of the run: the reads of the initial file, the start, the lines of the file, and the turns, each with its pause
abbrev pub AgentScript : AgentAsked → Result Ended RunFault → History → History → Type 0
AgentScript w result earlier added =
    HasRun (the_agent w.source) chukwa (ring_of w) (rules_of w) (work_of w) result (Some earlier) (Some (added ++ earlier))

-- the turns are over, or a control line ended the agent
abbrev pub AgentWhole : AgentAsked → History → History → Type 0
AgentWhole w earlier added = (end : Ended) × AgentScript w (Ok end) earlier added

-- ---- a collector

-- The script of the run: the start, so many turns at the address, each of at most so many messages, of which the first one is
-- waited for 1,000 ms, and the end. Before it the writer reads the file of the subscribers, who are sent what was answered.
abbrev pub CollectorScript : CollectorAsked → History → History → Type 0
CollectorScript w earlier added =
    (a : List Subscriber) × (read : Option History) × TeesRead w.tee (Ok a) (Some earlier) read
    × CollectorRan (the_collector w.name) w.rotate w.turns w.address w.messages 1000 a read (Some (added ++ earlier))

-- at each taking that may wait 1,000 ms, which is the first of a turn, all of each sink under writing is committed, and at the
-- end none is under writing
pub record CollectorWhole (w : CollectorAsked) (earlier added : History) : Type 0 where
  pub ran : CollectorScript w earlier added
  pub committed : Every (FindsCommitted w.name) added earlier
  pub closed : IsNoneOpen w.name (files_after (added ++ earlier))

-- ---- an archive run

-- all of these acts are the job's, and of the kinds that an archive run and its prints make
abbrev pub AreArchiveActs : List Act → Type 0
AreArchiveActs [] = Unit {0}
AreArchiveActs (act ∷ acts) = (act.who ≡ job) × ArchivesAndTells (deed act) × AreArchiveActs acts

-- the sinks were listed once, and just the lines of this report were printed
pub record ArchivedOnce (report : Report) (acts : List Act) : Type 0 where
  pub each : AreArchiveActs acts
  pub once : count_by lists_sinks acts ≡ 1
  pub printed_is : printed acts ≡ map (by job) (report_lines report)

-- and the report is that of the run, which began with that listing and with the book that stood there before
pub record ArchiveWhole (earlier added : History) : Type 0 where
  pub report : Report
  pub acts : ArchivedOnce report (own_acts added)
  pub done : RunDone (book_of (files_after earlier) ArchiveFolder) report (added ++ earlier)

-- ---- all of them

-- the command's defined end
abbrev pub Whole : List (List ℕ) → Asked → History → History → Type 0
Whole stamped (Round w) earlier added = RoundWhole w earlier added
Whole stamped (Agent w) earlier added = AgentWhole w earlier added
Whole stamped (Collector w) earlier added = CollectorWhole w earlier added
Whole stamped (Drain w) earlier added = DrainWhole w earlier added
Whole stamped Archive earlier added = ArchiveWhole earlier added
Whole stamped (Demux kinds) earlier added = DemuxWhole stamped earlier added
Whole stamped (Salvage file) earlier added = SalvagePrinted file earlier added
Whole stamped (Load lines) earlier added = LoadWhole lines earlier added
Whole stamped (Udp w) earlier added = UdpWhole w earlier added
Whole stamped (Subscribe w) earlier added = SubscribeWhole w earlier added
Whole stamped (Join w) earlier added = JoinWhole w earlier added

-- what it did by its own acts: a salvage only reads its file and prints
abbrev pub Did : Asked → History → History → Type 0
Did (Round w) earlier added = RoundScript w (Ok tt) earlier added
Did (Agent w) earlier added = AgentWhole w earlier added
Did (Collector w) earlier added = CollectorScript w earlier added
Did (Drain w) earlier added = DrainScript w (Ok tt) earlier added
Did Archive earlier added = (report : Report) × ArchivedOnce report (own_acts added)
Did (Demux kinds) earlier added = (report : DemuxReport) × DemuxedOnce report (own_acts added)
Did (Salvage file) earlier added = AreSalvageActs file (own_acts added) × SalvagePrinted file earlier added
Did (Load lines) earlier added = LoadDid lines earlier added
Did (Udp w) earlier added = UdpWhole w earlier added
Did (Subscribe w) earlier added = SubscribeWhole w earlier added
Did (Join w) earlier added = JoinWhole w earlier added
