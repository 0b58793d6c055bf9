use Rattle.std.proofs.Common.{refl}
use Rattle.chk_agent.specs.Commands.{did}
use Rattle.chk_agent.proofs.CommandingPlain.{answered_as}
use Rattle.chk_agent.proofs.agent.Agent.run.Goals as goal

pub returns-in-Blank : goal.returns-in-Blank
returns-in-Blank c = rw (c.in-Blank.is, c.new.ensures) (did _ refl)

pub returns-in-Close : goal.returns-in-Close
returns-in-Close c = rw c.in-Close.is
    (answered_as _ c.args.self.now _ _ c.answer.result c.answer.ensures refl)

pub returns-in-Help : goal.returns-in-Help
returns-in-Help c = rw c.in-Help.is
    (answered_as _ c.args.self.now _ _ c.answer-in-Help.result c.answer-in-Help.ensures refl)

pub returns-in-StopAgent : goal.returns-in-StopAgent
returns-in-StopAgent c =
    rw c.in-StopAgent.is (answered_as _ c.args.self.now _ _ c.answer-in-StopAgent.result
    c.answer-in-StopAgent.ensures refl)
