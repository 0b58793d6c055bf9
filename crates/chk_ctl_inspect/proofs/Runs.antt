-- The steps of each command are inspections.
use Rattle.std.proofs.Common.{inl, inr, ℕ, List, Option, Some, None}
use Rattle.chk_site.specs.Acts.{deed}
use Rattle.chk_site.specs.Acts.{Deed as Call}
use Rattle.chk_site.specs.History.{History, Step}
use Rattle.chk_ctl_line.specs.Commands.{Asked, Audit, Cat, Check, Streams, Verify, Sum, Held, HeldIn}
use Rattle.chk_ctl_line.specs.Commands.{Passed, Help, Version}
use Rattle.chk_ctl_audit.specs.Audits.{AuditsBy, LooksAtAudit}
use Rattle.chk_ctl_audit.specs.Audits as audits
use Rattle.chk_ctl_audit_log.specs.Placing as placing
use Rattle.chk_ctl_cat.specs.Looking as cats
use Rattle.chk_ctl_check.specs.Checking.{ChecksBy}
use Rattle.chk_ctl_check.specs.Checking as checks
use Rattle.chk_ctl_check.specs.Collectors as collectors
use Rattle.chk_ctl_check.specs.Looking as checked
use Rattle.chk_ctl_passed.specs.Agents.{ListsAgents, LooksAtAgents}
use Rattle.chk_ctl_passed.specs.Agents as agents
use Rattle.chk_ctl_passed.specs.Oldest.{LooksAtLog}
use Rattle.chk_ctl_passed.specs.Oldest as oldest
use Rattle.chk_ctl_streams.specs.Following.{LooksAgain}
use Rattle.chk_ctl_streams.specs.Following as following
use Rattle.chk_ctl_verify.specs.Calls.{LooksAround, Looks}
use Rattle.chk_ctl_verify.specs.Calls as verify
use Rattle.chk_ctl_run.specs.Calls.{IsOfRun}
use Rattle.chk_ctl_machine.specs.Inspecting.{asks_newest, lists, reads_log, says, sends_nothing, waits}
use Rattle.chk_ctl_machine.specs.Inspecting.{Inspects, IsInspection}
use Rattle.chk_ctl_machine.proofs.Inspections.{look_step, own_step, reads_file}

again : (call : Call) → LooksAgain call → IsInspection call
again call (following.looks_once _ (cats.looks _ is)) = reads_file call is
again call (following.looks_once _ (cats.says text)) = says text
again call (following.waits ms) = waits ms

audits_by : (call : Call) → AuditsBy call → IsInspection call
audits_by call (audits.reads_file _ is) = reads_file call is
audits_by call (audits.reads_log path _ (placing.reads p at max)) = reads_log path p at max
audits_by call (audits.says line) = says line

checks_by : (call : Call) → ChecksBy call → IsInspection call
checks_by call (checks.reads_file _ is) = reads_file call is
checks_by call (checks.asks_of_logs _ (checked.lists folder)) = lists folder
checks_by call (checks.asks_of_logs _ (checked.reads path part at max)) = reads_log path part at max
checks_by call (checks.sends_or_says _ (collectors.asks _ (collectors.sends n address))) =
    sends_nothing n address
checks_by call (checks.sends_or_says _ (collectors.says text)) = says text

lists_agents : (call : Call) → ListsAgents call → IsInspection call
lists_agents call agents.lists = lists _

looks_at_log : (path : List ℕ) (call : Call) → LooksAtLog path call → IsInspection call
looks_at_log path call (oldest.reads at) = reads_log path _ at _
looks_at_log path call oldest.asks = asks_newest path

verifies : (call : Call) → LooksAround call → IsInspection call
verifies call (verify.quiet _ (verify.looks_at _ is)) = reads_file call is
verifies call (verify.quiet _ (verify.lists folder)) = lists folder
verifies call (verify.says text) = says text
verifies call (verify.waits ms) = waits ms

audit_step : {before : History} {step : Step} → LooksAtAudit before step → Inspects before step
audit_step (inl x) = own_step AuditsBy audits_by x
audit_step (inr look) = look_step look.2

passed_step : (path : List ℕ) {before : History} {step : Step} → LooksAtAgents path before step
    → Inspects before step
passed_step path (inl x) = own_step ListsAgents lists_agents x
passed_step path (inr (agent, is, inl look)) = look_step look
passed_step path (inr (agent, is, inr x)) = own_step (LooksAtLog path) (looks_at_log path) x

verify_step : {before : History} {step : Step} → Looks before step → Inspects before step
verify_step (inl theirs) = inl theirs
verify_step {step = step} (inr own) = inr (own.0.own, verifies (deed step.act) own.1)

pub runs : (command : Option Asked) {before : History} {step : Step}
    → IsOfRun command before step → Inspects before step
runs None x = own_step LooksAgain again x
runs (Some (Audit w)) x = audit_step x
runs (Some (Check w)) x = own_step ChecksBy checks_by x
runs (Some (Passed w)) x = passed_step w.log x
runs (Some (Verify store)) x = verify_step x
runs (Some (Cat w)) x = own_step LooksAgain again x
runs (Some (Streams store)) x = own_step LooksAgain again x
runs (Some (Sum store)) x = own_step LooksAgain again x
runs (Some (Held store)) x = own_step LooksAgain again x
runs (Some (HeldIn stores)) x = own_step LooksAgain again x
runs (Some (Help usage)) x = own_step LooksAgain again x
runs (Some Version) x = own_step LooksAgain again x
