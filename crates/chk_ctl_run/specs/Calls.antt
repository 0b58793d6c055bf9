-- Which steps each command makes, and what its outcome says of the count of faults.
use Rattle.std.specs.Prelude.{ℕ, Option, Some, None}
use Rattle.chk_site.specs.History.{History, Step}
use Rattle.chk_world.specs.JobSteps.{IsOf}
use Rattle.chk_ctl_audit.specs.Audits.{LooksAtAudit}
use Rattle.chk_ctl_check.specs.Checking.{ChecksBy}
use Rattle.chk_ctl_verify.specs.Calls.{Looks}
use Rattle.chk_ctl_passed.specs.Agents.{LooksAtAgents}
use Rattle.chk_ctl_streams.specs.Following.{LooksAgain}
use Rattle.chk_ctl_line.specs.Commands.{Asked, Audit, Check, Passed, Verify}
use Rattle.chk_ctl_run.specs.declared.outcome.Outcome.{Outcome}
use Rattle.chk_ctl_run.specs.Checking.{CheckedCause}
use Rattle.chk_ctl_run.specs.Outcomes.{OutcomeCause}

-- the step is one of others, or a call of the command: `check` makes those of checks, `passed`
-- reads checkpoints by the names of their agents, `verify` does so too and lists folders, `audit`
-- reads them and logs, and all else is a look
abbrev pub IsOfAsked : Asked → History → Step → Type 0
IsOfAsked (Audit w) before step = LooksAtAudit before step
IsOfAsked (Check w) before step = IsOf ChecksBy before step
IsOfAsked (Passed w) before step = LooksAtAgents w.log before step
IsOfAsked (Verify store) before step = Looks before step
IsOfAsked command before step = IsOf LooksAgain before step

-- the same by the words
abbrev pub IsOfRun : Option Asked → History → Step → Type 0
IsOfRun (Some command) before step = IsOfAsked command before step
IsOfRun None before step = IsOf LooksAgain before step

-- what the outcome says of the count: of `check` calls on logs and collectors may fail, too
abbrev pub CauseOfAsked : Asked → ℕ → ℕ → Outcome → Type 0
CauseOfAsked (Check w) before now outcome = CheckedCause before now outcome
CauseOfAsked command before now outcome = OutcomeCause before now outcome

-- the same by the words
abbrev pub CauseOfRun : Option Asked → ℕ → ℕ → Outcome → Type 0
CauseOfRun (Some command) before now outcome = CauseOfAsked command before now outcome
CauseOfRun None before now outcome = OutcomeCause before now outcome
