use Rattle.std.proofs.Common.{sym}
use Rattle.chk_ctl_status_rows.specs.Agents.{named, other, unnamed}
use Rattle.chk_ctl_status_rows.proofs.agents.add_agent.Goals as goal

pub returns-in-Ok-Some-clause-told : goal.returns-in-Ok-Some-clause-told
returns-in-Ok-Some-clause-told g c =
    named c.in-Ok-Some.agent (sym (rw c.in-Ok-Some.field-0-is at c.in-Ok-Some.ensures))
    c.add_named.ensures.told

pub returns-in-Ok-None-clause-told : goal.returns-in-Ok-None-clause-told
returns-in-Ok-None-clause-told g c =
    other (sym (rw c.in-Ok-None.field-0-is at c.in-Ok-None.ensures))

pub returns-in-Err-clause-told : goal.returns-in-Err-clause-told
returns-in-Err-clause-told g c = unnamed
