use Rattle.chk_agent.specs.Adds.{not_asked}
use Rattle.chk_agent.proofs.agent.Agent.newest.Goals as goal

pub returns-in-Plain-clause-told : goal.returns-in-Plain-clause-told
returns-in-Plain-clause-told g c = rw (c.in-Plain.is) not_asked
