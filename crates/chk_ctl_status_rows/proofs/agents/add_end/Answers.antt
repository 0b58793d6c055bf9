use Rattle.chk_ctl_status_rows.specs.Agents.{log_added, log_failed}
use Rattle.chk_ctl_status_rows.proofs.agents.add_end.Goals as goal

pub returns-in-Ok-clause-told : goal.returns-in-Ok-clause-told
returns-in-Ok-clause-told g c =
    rw c.push_end.ensures (log_added c.in-Ok.end c.push_end.result c.in-Ok.ensures.told)

pub returns-in-Err-clause-told : goal.returns-in-Err-clause-told
returns-in-Err-clause-told g c = log_failed c.in-Err.fault c.in-Err.ensures.told
