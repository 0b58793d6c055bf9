-- What each ending shows, status by status.
use Rattle.std.specs.Prelude.{◌≡◌, ◌⊎◌, ℕ, ◌-◌, ◌^◌, false, List, [], ◌∷◌, ◌++◌, Option, Some, None, Ok, Err}
use Rattle.chk_bytes.specs.Numbers.{last_number}
use Rattle.chk_site.specs.declared.acts.Act.{Act}
use Rattle.chk_site.specs.declared.acts.Call.{Call}
use Rattle.chk_site.specs.declared.acts.CallFault.TheVariants.{Failed}
use Rattle.chk_site.specs.declared.acts.ActAnswer.TheVariants.{Refused}
use Rattle.chk_site.specs.Files.{File}
use Rattle.chk_site.specs.Effect.{IsSmallFile}
use Rattle.chk_site.specs.History.{History, Others, files_after}
use Rattle.chk_site.specs.Runs.{own_acts}
use Rattle.chk_replace.specs.Replace.{LeavesFile}
use Rattle.chk_seqfile.specs.declared.headers.HeaderFault.{HeaderFault}
use Rattle.chk_seqfile.specs.Headers.{read_header}
use Rattle.chk_world.specs.Committed.{number_in}
use Rattle.chk_world.specs.Names.{BornFile, CheckFile, file, spell}
use Rattle.chk_archive.specs.Written.{LacksNumbers}
use Rattle.chk_archive.specs.Shown.{IsDamage as IsArchiveDamage, IsSpent as IsArchiveSpent}
use Rattle.chk_demux.specs.Shown.{IsDamage as IsDemuxDamage, IsSpent as IsDemuxSpent}
use Rattle.chk_sink.specs.declared.fault.SinkFault.{SinkFault}
use Rattle.chk_sink.specs.declared.fault.SinkFault.TheVariants as Sinks
use Rattle.chk_agent_run.specs.declared.faults.RunFault.TheVariants as runs
use Rattle.chk_collector_run.specs.Runs.{IsCutRun}
use Rattle.chk_agent_drain.specs.Parts.{is_talk}
use Rattle.chk_cmd_drain.specs.declared.faults.DrainFault.TheVariants as drains
use Rattle.chk_cmd_line.specs.Commands.{AgentAsked, CollectorAsked, DrainAsked}
use Rattle.chk_cmd_salvage.specs.Printing.{bytes_or_none, said}
use Rattle.chk_cmd_line.specs.Commands.{Asked, Round, Agent, Collector, Drain, Archive, Demux, Salvage, Load, Udp, Subscribe, Join}
use Rattle.chukwa_run.specs.Demuxing.{AreDemuxActs, DemuxedAtMost, DemuxFits}
use Rattle.chukwa_run.specs.Datagrams.{UdpCut}
use Rattle.chukwa_run.specs.Subscribing.{SubscribeCut}
use Rattle.chukwa_run.specs.Joining.{JoinCut}
use Rattle.chukwa_run.specs.Teeing.{TeesRead}
use Rattle.chk_tee_sender.specs.declared.Subscriber.{Subscriber}
use Rattle.chukwa_run.specs.Loading.{LoadCut, LoadFits}
use Rattle.chukwa_run.specs.RoundRuns.{RoundCut, RoundFits}
use Rattle.chukwa_run.specs.Processes.{the_collector}
use Rattle.chukwa_run.specs.Draining.{DrainScript}
use Rattle.chukwa_run.specs.Whole.{AgentScript, AreArchiveActs, AreSalvageActs}
use Rattle.chk_cmd_line.specs.declared.endings.Ending.{Ending}
use Rattle.chk_cmd_line.specs.declared.endings.Ending.TheVariants.{Outside, NoMemory, Damaged, Length, Growing, Shrank, Spent, Refused as refused_all}

-- ---- 3: the call that failed

-- the newest of these acts is this call, which failed
abbrev pub FailedLast : Call → List Act → Type 0
FailedLast call [] = ⊥
FailedLast call (act ∷ acts) = (act.call ≡ call) × (act.answer ≡ Refused Failed)

-- ---- 5: a file that isn't in its grammar

-- the header is refused, and nothing was printed, where no step of others names the file
pub record ShowsBadHeader (file name : List ℕ) (at : ℕ) (added earlier : History) : Type 0 where
  pub named : name ≡ file
  pub first : at ≡ 0
  pub refused : (content : Option File) → IsSmallFile content → Others (LeavesFile file) added earlier
      → files_after earlier file ≡ content → (why : HeaderFault) × (read_header (bytes_or_none content) ≡ Err why) × (said (own_acts added) ≡ [])

-- ---- an agent

-- the name is that of the initial file
abbrev pub IsInitial : Option (List ℕ) → List ℕ → Type 0
IsInitial None name = ⊥
IsInitial (Some file) name = name ≡ file

-- a line of the initial file at this byte was neither blank, nor of a stream that is read, nor an accepted `add`
abbrev pub IsBadLine : AgentAsked → List ℕ → ℕ → History → History → Type 0
IsBadLine w name at earlier added = IsInitial w.initial name × AgentScript w (Err (runs.Initial at)) earlier added

-- its own checkpoint isn't in its grammar
abbrev pub IsBadCheckpoint : AgentAsked → List ℕ → ℕ → History → History → Type 0
IsBadCheckpoint w name at earlier added =
    (name ≡ spell (CheckFile w.source)) × AgentScript w (Err (runs.Checkpoint at)) earlier added

abbrev pub AgentCut : AgentAsked → History → Ending → History → Type 0
AgentCut w earlier (Outside call) added = FailedLast call (own_acts added) × AgentScript w (Err (runs.Outside call)) earlier added
AgentCut w earlier NoMemory added = Unit {0}
AgentCut w earlier (Damaged name at) added = IsBadLine w name at earlier added ⊎ IsBadCheckpoint w name at earlier added
AgentCut w earlier e added = ⊥

-- in a legal history its own checkpoint is never damaged
abbrev pub AgentFits : AgentAsked → History → Ending → History → Type 0
AgentFits w earlier (Damaged name at) added = IsBadLine w name at earlier added
AgentFits w earlier e added = Unit {0}

-- ---- a collector

-- where the script of the run was cut short by this fault
abbrev pub IsCutAt : CollectorAsked → SinkFault → History → History → Type 0
IsCutAt w fault earlier added =
    (a : List Subscriber) × (read : Option History) × TeesRead w.tee (Ok a) (Some earlier) read
    × IsCutRun (the_collector w.name) w.rotate w.turns w.address w.messages 1000 a fault read (Some (added ++ earlier))

-- where the file of the subscribers ended it so, before the start
abbrev pub IsUnread : CollectorAsked → Ending → History → History → Type 0
IsUnread w e earlier added = TeesRead w.tee (Err e) (Some earlier) (Some (added ++ earlier))

abbrev pub CollectorCut : CollectorAsked → History → Ending → History → Type 0
CollectorCut w earlier (Outside call) added =
    FailedLast call (own_acts added) × (IsCutAt w (Sinks.Outside call) earlier added ⊎ IsUnread w (Outside call) earlier added)
CollectorCut w earlier NoMemory added = Unit {0}
CollectorCut w earlier (Damaged name at) added =
    IsCutAt w (Sinks.Damaged name at) earlier added ⊎ IsUnread w (Damaged name at) earlier added
CollectorCut w earlier (Spent n) added = (n ≡ last_number) × IsCutAt w (Sinks.Spent n) earlier added
CollectorCut w earlier e added = ⊥

-- in a legal history nothing of its own is damaged, but the file of its subscribers may be, and the number of its starts is the
-- last one where it is spent
abbrev pub CollectorFits : CollectorAsked → History → Ending → History → Type 0
CollectorFits w earlier (Damaged name at) added = IsUnread w (Damaged name at) earlier added
CollectorFits w earlier (Spent n) added = number_in (file (files_after (added ++ earlier)) (BornFile w.name)) ≡ last_number
CollectorFits w earlier e added = Unit {0}

-- ---- a drain

-- a line of its initial file isn't one that adds a stream
abbrev pub IsBadDrainLine : DrainAsked → List ℕ → ℕ → History → History → Type 0
IsBadDrainLine w name at earlier added =
    IsInitial w.initial name × DrainScript w (Err (drains.Run (runs.Initial at))) earlier added

-- its own checkpoint isn't in its grammar
abbrev pub IsBadDrainCheckpoint : DrainAsked → List ℕ → ℕ → History → History → Type 0
IsBadDrainCheckpoint w name at earlier added =
    (name ≡ spell (CheckFile w.source))
    × DrainScript w (Err (drains.Run (runs.Checkpoint at))) earlier added

-- The call that failed is the newest one, but for a send or the question for a reply: of these
-- others may follow, to further addresses.
abbrev pub DrainCut : DrainAsked → History → Ending → History → Type 0
DrainCut w earlier (Outside call) added =
    (is_talk call ≡ false → FailedLast call (own_acts added))
    × DrainScript w (Err (drains.Run (runs.Outside call))) earlier added
DrainCut w earlier NoMemory added = Unit {0}
DrainCut w earlier (Damaged name at) added =
    IsBadDrainLine w name at earlier added ⊎ IsBadDrainCheckpoint w name at earlier added
DrainCut w earlier (Length stem got want) added =
    DrainScript w (Err (drains.Pending stem got want)) earlier added
DrainCut w earlier (Growing path reads) added =
    DrainScript w (Err (drains.Growing path reads)) earlier added
DrainCut w earlier (Shrank path had is) added =
    DrainScript w (Err (drains.Shrank path had is)) earlier added
DrainCut w earlier (refused_all code) added = DrainScript w (Err (drains.Refused code)) earlier added
DrainCut w earlier e added = ⊥

-- in a legal history its own checkpoint is never damaged, and no log is shorter than what was read of it
abbrev pub DrainFits : DrainAsked → History → Ending → History → Type 0
DrainFits w earlier (Damaged name at) added = IsBadDrainLine w name at earlier added
DrainFits w earlier (Shrank path had is) added = ⊥
DrainFits w earlier e added = Unit {0}

-- ---- an archive run

-- which ends a run of the job has, and what they show by its acts
abbrev pub ArchiveFault : Ending → History → Type 0
ArchiveFault (Outside call) added = FailedLast call (own_acts added)
ArchiveFault NoMemory added = Unit {0}
ArchiveFault (Damaged name at) added = Unit {0}
ArchiveFault (Spent n) added = Unit {0}
ArchiveFault e added = ⊥

-- own reads of an archive run show why the file is told to be damaged, and why the numbers are told
-- to be spent
abbrev pub ArchiveShown : History → Ending → History → Type 0
ArchiveShown earlier (Damaged name at) added = IsArchiveDamage name at added earlier
ArchiveShown earlier (Spent n) added = (n ≡ last_number) × IsArchiveSpent added earlier
ArchiveShown earlier e added = Unit {0}

-- it made only calls of an archive run and of its prints
abbrev pub ArchiveCut : History → Ending → History → Type 0
ArchiveCut earlier e added = AreArchiveActs (own_acts added) × ArchiveFault e added × ArchiveShown earlier e added

-- In a legal history nothing of its own is damaged. The segment numbers are spent only where none is
-- left for a segment that is needed now.
abbrev pub ArchiveFits : History → Ending → Type 0
ArchiveFits history (Damaged name at) = ⊥
ArchiveFits history (Spent n) =
    (n ≡ last_number) × LacksNumbers history
ArchiveFits history e = Unit {0}

-- ---- a demux run

-- the same of a demux run
abbrev pub DemuxShown : History → Ending → History → Type 0
DemuxShown earlier (Damaged name at) added = IsDemuxDamage name at added earlier
DemuxShown earlier (Spent n) added = (n ≡ last_number) × IsDemuxSpent added earlier
DemuxShown earlier e added = Unit {0}

-- it made only calls of a demux run and of its print, and printed at most one line
abbrev pub DemuxCut : History → Ending → History → Type 0
DemuxCut earlier e added =
    AreDemuxActs (own_acts added) × ArchiveFault e added × DemuxedAtMost (own_acts added) × DemuxShown earlier e added

-- ---- a salvage

abbrev pub SalvageCut : List ℕ → History → Ending → History → Type 0
SalvageCut file earlier (Outside call) added = FailedLast call (own_acts added)
SalvageCut file earlier NoMemory added = Unit {0}
SalvageCut file earlier (Damaged name at) added = ShowsBadHeader file name at added earlier
SalvageCut file earlier e added = ⊥

-- ---- all of them

-- what an end shows by the run's own acts alone
abbrev pub IsOf : Asked → History → Ending → History → Type 0
IsOf (Round w) earlier e added = RoundCut w earlier e added
IsOf (Agent w) earlier e added = AgentCut w earlier e added
IsOf (Collector w) earlier e added = CollectorCut w earlier e added
IsOf (Drain w) earlier e added = DrainCut w earlier e added
IsOf Archive earlier e added = ArchiveCut earlier e added
IsOf (Demux kinds) earlier e added = DemuxCut earlier e added
IsOf (Salvage file) earlier e added = AreSalvageActs file (own_acts added) × SalvageCut file earlier e added
IsOf (Load lines) earlier e added = LoadCut lines earlier e added
IsOf (Udp w) earlier e added = UdpCut w earlier e added
IsOf (Subscribe w) earlier e added = SubscribeCut w earlier e added
IsOf (Join w) earlier e added = JoinCut w earlier e added

-- and what it shows under the suppositions of a run
abbrev pub Shows : Asked → History → Ending → History → Type 0
Shows (Round w) earlier e added = RoundCut w earlier e added × RoundFits w earlier e added
Shows (Agent w) earlier e added = AgentCut w earlier e added × AgentFits w earlier e added
Shows (Collector w) earlier e added = CollectorCut w earlier e added × CollectorFits w earlier e added
Shows (Drain w) earlier e added = DrainCut w earlier e added × DrainFits w earlier e added
Shows Archive earlier e added = ArchiveCut earlier e added × ArchiveFits (added ++ earlier) e
Shows (Demux kinds) earlier e added = DemuxCut earlier e added × DemuxFits kinds (added ++ earlier) e
Shows (Salvage file) earlier e added = SalvageCut file earlier e added
Shows (Load lines) earlier e added = LoadCut lines earlier e added × LoadFits lines earlier e added
Shows (Udp w) earlier e added = UdpCut w earlier e added
Shows (Subscribe w) earlier e added = SubscribeCut w earlier e added
Shows (Join w) earlier e added = JoinCut w earlier e added
