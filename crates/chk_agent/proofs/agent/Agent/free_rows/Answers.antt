use Rattle.std.proofs.Common.{subst}
use Rattle.chk_agent.specs.Fits.{IsSound}
use Rattle.chk_agent.proofs.agent.Agent.free_rows.Goals as goal

pub returns-clause-sound : goal.returns-clause-sound
returns-clause-sound c = subst IsSound c.self.view_is c.self.invariant.sound
