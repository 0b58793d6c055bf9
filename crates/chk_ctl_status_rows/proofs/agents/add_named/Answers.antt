use Rattle.chk_ctl_status_rows.specs.Agents.{added, failed}
use Rattle.chk_ctl_status_rows.proofs.agents.add_named.Goals as goal

pub returns-in-Ok-clause-told : goal.returns-in-Ok-clause-told
returns-in-Ok-clause-told g c =
    rw c.push_agent.ensures (added c.in-Ok.seen c.push_agent.result c.in-Ok.ensures.told)

pub returns-in-Err-clause-told : goal.returns-in-Err-clause-told
returns-in-Err-clause-told g c = failed c.in-Err.ensures.told
