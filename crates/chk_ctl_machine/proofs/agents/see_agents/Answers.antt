use Rattle.chk_ctl_machine.specs.Agents.{seen, unseen}
use Rattle.chk_ctl_machine.proofs.agents.see_agents.Goals as goal

pub returns-in-Ok : goal.returns-in-Ok
returns-in-Ok g c = seen c.in-Ok.ensures c.with_ages.ensures

pub returns-in-Err : goal.returns-in-Err
returns-in-Err g c = unseen c.in-Err.ensures
