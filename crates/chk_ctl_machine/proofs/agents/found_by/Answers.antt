use Rattle.chk_ctl_machine.specs.Agents.{read, unread}
use Rattle.chk_ctl_machine.proofs.Inspections.{reads_logs}
use Rattle.chk_ctl_machine.proofs.Causes.{agents_as, own_as}
use Rattle.chk_ctl_status_rows.specs.Agents.{LooksAtLogs}
use Rattle.chk_ctl_machine.proofs.agents.found_by.Goals as goal

pub returns-in-Ok-clause-told : goal.returns-in-Ok-clause-told
returns-in-Ok-clause-told g c = read (agents_as c.requires.job c.in-Ok.ensures.ok)

pub returns-in-Ok-clause-own : goal.returns-in-Ok-clause-own
returns-in-Ok-clause-own g c =
    own_as LooksAtLogs (λ before step x. reads_logs x) c.in-Ok.ensures.own

pub returns-in-Err-clause-told : goal.returns-in-Err-clause-told
returns-in-Err-clause-told g c =
    unread (agents_as c.requires.job c.in-Err.ensures.err) c.outcome_of.ensures

pub returns-in-Err-clause-own : goal.returns-in-Err-clause-own
returns-in-Err-clause-own g c =
    own_as LooksAtLogs (λ before step x. reads_logs x) c.in-Err.ensures.own
