-- Which steps are inspections.
use Rattle.std.proofs.Common.{ℕ, List, inl, inr, subst, sym}
use Rattle.chk_site.specs.declared.acts.Who.{Who}
use Rattle.chk_site.specs.Acts.{deed}
use Rattle.chk_site.specs.Acts.{Deed as Call}
use Rattle.chk_site.specs.History.{History, Step}
use Rattle.chk_replace.specs.Load.{IsLook}
use Rattle.chk_world.specs.JobSteps.{IsOf, ReadsFile}
use Rattle.chk_world.specs.JobSteps.{reads as reads_piece, asks as asks_length}
use Rattle.chk_ctl_status.specs.Doors.{AsksList}
use Rattle.chk_ctl_status.specs.Doors as doors
use Rattle.chk_ctl_status_rows.specs.Agents.{LooksAtLogs, ReadsLogs}
use Rattle.chk_ctl_status_rows.specs.Agents as agents
use Rattle.chk_ctl_status_rows.specs.Sinks.{LooksAround}
use Rattle.chk_ctl_status_rows.specs.Sinks as sinks
use Rattle.chk_ctl_machine.specs.Inspecting.{asks_size, gets, lists, reads, reads_log, says, sends_list, waits}
use Rattle.chk_ctl_machine.specs.Inspecting.{Inspects, IsInspection}

-- steps of the job, by their calls
pub own_step : (K : Call → Type 0) → ((call : Call) → K call → IsInspection call)
    → {before : History} {step : Step} → IsOf K before step → Inspects before step
own_step K is (inl theirs) = inl theirs
own_step K is {step = step} (inr own) = inr (own.0.own, is (deed step.act) own.1)

pub reads_file : (call : Call) → ReadsFile call → IsInspection call
reads_file call (reads_piece name at max) = reads name at max
reads_file call (asks_length name) = asks_size name

-- a read of a file by another process
pub look_step : {who : Who} {name : List ℕ} {before : History} {step : Step}
    → IsLook who name before step → Inspects before step
look_step (inl theirs) = inl theirs
look_step {name = name} (inr read) =
    inr (read.own, subst IsInspection (sym read.asks) (reads name read.at _))

around : (call : Call) → LooksAround call → IsInspection call
around call (sinks.reads _ is) = reads_file call is
around call (sinks.lists folder) = lists folder
around call (sinks.says text) = says text
around call (sinks.waits ms) = waits ms

pub looks : {before : History} {step : Step} → IsOf LooksAround before step → Inspects before step
looks x = own_step LooksAround around x

logs : (call : Call) → ReadsLogs call → IsInspection call
logs call agents.lists = lists _
logs call (agents.reads path part at) = reads_log path part at 1

pub reads_logs : {before : History} {step : Step} → LooksAtLogs before step → Inspects before step
reads_logs (inl x) = own_step ReadsLogs logs x
reads_logs (inr look) = look_step look.2

list_asked : (call : Call) → AsksList call → IsInspection call
list_asked call (doors.sends n address) = sends_list n address
list_asked call (doors.gets n) = gets n

pub asks_list : {before : History} {step : Step} → IsOf AsksList before step → Inspects before step
asks_list x = own_step AsksList list_asked x
