-- Each command's endings have its statuses.
use Rattle.std.proofs.Common.{inl, inr, ℕ, ◌==◌, List, Ok, Err, Option, Result, refl, sym, ◌∙◌, subst}
use Rattle.std.specs.List.{list_any}
use Rattle.std.specs.Prelude.{Contains, IsTrue}
use Rattle.std.proofs.lemmas.List.Elements.{Contains-get_or}
use Rattle.std.proofs.lemmas.List.Folds.{Any-from_list_any}
use Rattle.std.proofs.lemmas.Bool.{eqb-true}
use Rattle.chk_agent_run.specs.declared.faults.RunFault.{RunFault}
use Rattle.chk_agent_run.specs.declared.faults.RunFault.TheVariants as runs
use Rattle.chk_cmd_drain.specs.declared.faults.DrainFault.{DrainFault}
use Rattle.chk_cmd_drain.specs.declared.faults.DrainFault.TheVariants as drains
use Rattle.chk_record_index.specs.declared.fault.JobFault.{JobFault}
use Rattle.chk_record_index.specs.declared.fault.JobFault.TheVariants as jobs
use Rattle.chk_sink.specs.declared.fault.SinkFault.{SinkFault}
use Rattle.chk_sink.specs.declared.fault.SinkFault.TheVariants as sinks
use Rattle.chk_join.specs.declared.fault.JoinFault.{JoinFault}
use Rattle.chk_join.specs.declared.fault.JoinFault.TheVariants as joins
use Rattle.chk_cmd_load.specs.declared.ends.LoadEnd.{LoadEnd}
use Rattle.chk_cmd_load.specs.declared.ends.LoadEnd.TheVariants as loads
use Rattle.chk_round.specs.declared.faults.RoundFault.{RoundFault}
use Rattle.chk_round.specs.declared.faults.RoundFault.TheVariants as rounds
use Rattle.chk_cmd_round.specs.declared.ends.RoundEnd.{RoundEnd}
use Rattle.chk_cmd_round.specs.declared.ends.RoundEnd.TheVariants.{Fault, Unclosed as FoundUnclosed}
use Rattle.chk_site.specs.History.{History}
use Rattle.chk_cmd_line.specs.Joining.{JoinAsked}
use Rattle.chukwa_run.specs.Joining.{join_ending}
use Rattle.chukwa_run.specs.Loading.{IsLoadEnding, IsRoundEnding}
use Rattle.chukwa_run.specs.RoundRuns.{IsFaultEnding, IsRoundEnding as IsEndingOfRound}
use Rattle.chk_cmd_line.specs.Commands.{Asked, RoundAsked, AgentAsked, CollectorAsked, DrainAsked, Round, Agent, Collector, Drain, Archive, Demux, Salvage, Load, Udp, Subscribe, Join}
use Rattle.chk_cmd_line.specs.Endings.{ending_status}
use Rattle.chk_cmd_line.specs.declared.endings.Ending.{Ending}
use Rattle.chk_cmd_line.specs.declared.endings.Ending.TheVariants.{NoMemory}
use Rattle.chukwa_run.specs.Causes.{IsAgentEnding, IsDrainEnding, IsEndingOf, sink_ending}
use Rattle.chukwa_run.specs.JobFaults.{job_ending}
use Rattle.chukwa_run.specs.Saying.{SaysEnding}
use Rattle.chukwa_run.specs.Statuses.{HasItsStatus, statuses_of}
use Rattle.chk_cmd_salvage.specs.declared.fault.SalvageFault.{SalvageFault}
use Rattle.chk_cmd_salvage.specs.declared.fault.SalvageFault.TheVariants as salvages

-- ---- by command

-- a round and a load have all
round_of_load : (lines : ℕ) (fault : RoundFault) (e : Ending) → IsRoundEnding fault e
    → HasItsStatus (Load lines) (Err e)
round_of_load lines (rounds.Outside call) e is = rw is refl
round_of_load lines rounds.NoMemory e is = rw is refl
round_of_load lines (rounds.Damaged name at) e is = rw is refl
round_of_load lines (rounds.Checkpoint at) e (inl is) = rw is refl
round_of_load lines (rounds.Checkpoint at) e (inr is) = rw is refl
round_of_load lines (rounds.Length stem got want) e is = rw is refl
round_of_load lines (rounds.Growing path reads) e is = rw is refl
round_of_load lines (rounds.Shrank path had has) e is = rw is refl
round_of_load lines (rounds.Spent number) e is = rw is refl
round_of_load lines (rounds.Refused code) e is = rw is refl

pub load_status : (lines : ℕ) (end : LoadEnd) (e : Ending) → IsLoadEnding end e
    → HasItsStatus (Load lines) (Err e)
load_status lines (loads.Outside call) e is = rw is refl
load_status lines loads.NoMemory e is = rw is refl
load_status lines (loads.Round fault) e is = round_of_load lines fault e is
load_status lines (loads.Unclosed name) e is = rw is refl

fault_of_round : (w : RoundAsked) (source : List ℕ) (fault : RoundFault) (e : Ending)
    → IsFaultEnding source fault e
    → HasItsStatus (Round w) (Err e)
fault_of_round w source (rounds.Outside call) e is = rw is refl
fault_of_round w source rounds.NoMemory e is = rw is refl
fault_of_round w source (rounds.Damaged name at) e is = rw is refl
fault_of_round w source (rounds.Checkpoint at) e (inl is) = rw is refl
fault_of_round w source (rounds.Checkpoint at) e (inr is) = rw is refl
fault_of_round w source (rounds.Length stem got want) e is = rw is refl
fault_of_round w source (rounds.Growing path reads) e is = rw is refl
fault_of_round w source (rounds.Shrank path had has) e is = rw is refl
fault_of_round w source (rounds.Spent number) e is = rw is refl
fault_of_round w source (rounds.Refused code) e is = rw is refl

pub round_status : (w : RoundAsked) (source : List ℕ) (end : RoundEnd) (e : Ending)
    → IsEndingOfRound source end e
    → HasItsStatus (Round w) (Err e)
round_status w source (Fault fault) e is = fault_of_round w source fault e is
round_status w source (FoundUnclosed name) e is = rw is refl

pub join_status : (w : JoinAsked) (fault : JoinFault)
    → HasItsStatus (Join w) (Err (join_ending fault))
join_status w (joins.Job (jobs.Outside call)) = refl
join_status w (joins.Job (jobs.Damaged name at)) = refl
join_status w (joins.Job (jobs.Spent number)) = refl
join_status w (joins.Job jobs.NoMemory) = refl
join_status w (joins.Differ source kind name at) = refl
join_status w joins.NoMemory = refl

pub agent_status : (w : AgentAsked) (fault : RunFault) (e : Ending) → IsAgentEnding w fault e → HasItsStatus (Agent w) (Err e)
agent_status w (runs.Outside call) e is = rw is refl
agent_status w runs.NoMemory e is = rw is refl
agent_status w (runs.Initial at) e (inl is) = rw is.2 refl
agent_status w (runs.Initial at) e (inr is) = rw is refl
agent_status w (runs.Checkpoint at) e (inl is) = rw is refl
agent_status w (runs.Checkpoint at) e (inr is) = rw is refl

pub drain_status : (w : DrainAsked) (fault : DrainFault) (e : Ending) → IsDrainEnding w fault e → HasItsStatus (Drain w) (Err e)
drain_status w (drains.Run (runs.Outside call)) e is = rw is refl
drain_status w (drains.Run runs.NoMemory) e is = rw is refl
drain_status w (drains.Run (runs.Initial at)) e (inl is) = rw is.2 refl
drain_status w (drains.Run (runs.Initial at)) e (inr is) = rw is refl
drain_status w (drains.Run (runs.Checkpoint at)) e (inl is) = rw is refl
drain_status w (drains.Run (runs.Checkpoint at)) e (inr is) = rw is refl
drain_status w (drains.Pending stem got want) e is = rw is refl
drain_status w (drains.Growing path reads) e is = rw is refl
drain_status w (drains.Shrank path had has) e is = rw is refl
drain_status w (drains.Refused code) e is = rw is refl

-- a collector has those of its sinks
pub sink_status : (w : CollectorAsked) (fault : SinkFault) → HasItsStatus (Collector w) (Err (sink_ending fault))
sink_status w (sinks.Outside call) = refl
sink_status w (sinks.Damaged name at) = refl
sink_status w (sinks.Spent born) = refl
sink_status w sinks.NoMemory = refl

-- an archive run and a demux run have those of the job
pub job_status : (fault : JobFault) → HasItsStatus Archive (Err (job_ending fault))
job_status (jobs.Outside call) = refl
job_status (jobs.Damaged name at) = refl
job_status (jobs.Spent number) = refl
job_status jobs.NoMemory = refl

pub split_status : (kinds : List (List ℕ)) (fault : JobFault) → HasItsStatus (Demux kinds) (Err (job_ending fault))
split_status kinds fault = job_status fault

pub salvage_status : (file : List ℕ) (fault : SalvageFault) (e : Ending) → IsEndingOf file fault e → HasItsStatus (Salvage file) (Err e)
salvage_status file (salvages.Outside call) e is = rw is refl
salvage_status file salvages.NoMemory e is = rw is refl
salvage_status file salvages.Damaged e (inl is) = rw is refl
salvage_status file salvages.Damaged e (inr is) = rw is refl

-- ---- of the run

listed : (statuses : List ℕ) (status : ℕ) → IsTrue (list_any (λ s. s == status) statuses) → Contains statuses status
listed statuses status is =
    let found = Any-from_list_any (λ s. s == status) statuses is in
    subst (Contains statuses) (found.3 ∙ eqb-true found.1 status found.4) (Contains-get_or statuses found.0 found.1 found.2)

-- the status that is answered is that of the command's result
pub its_status : (command : Asked) (result : Result (Unit {0}) Ending) (status : ℕ) (old new : Option History)
    → HasItsStatus command result → SaysEnding result status old new → Contains (statuses_of command) status
its_status command (Ok value) status old new has says =
    subst (Contains (statuses_of command)) (sym says.0) (listed (statuses_of command) 0 has)
its_status command (Err e) status old new has says =
    subst (Contains (statuses_of command)) (sym says.0) (listed (statuses_of command) (ending_status e) has)

-- there was no memory to read the words
pub unread_status : (command : Asked) → HasItsStatus command (Err NoMemory)
unread_status (Round w) = refl
unread_status (Agent w) = refl
unread_status (Collector w) = refl
unread_status (Drain w) = refl
unread_status Archive = refl
unread_status (Demux kinds) = refl
unread_status (Salvage file) = refl
unread_status (Load lines) = refl
unread_status (Udp w) = refl
unread_status (Subscribe w) = refl
unread_status (Join w) = refl
