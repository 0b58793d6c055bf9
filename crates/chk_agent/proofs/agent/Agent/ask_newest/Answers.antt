use Rattle.std.proofs.Common.{ap}
use Rattle.chk_agent.specs.States.{State}
use Rattle.chk_agent.proofs.AddingKept.{asked_so}
use Rattle.chk_agent.proofs.agent.Agent.ask_newest.Goals as goal

pub returns-in-Ok-clause-told : goal.returns-in-Ok-clause-told
returns-in-Ok-clause-told g c =
    asked_so c.args.self.now c.self.inside.who c.args.path.now c.as_str.result.now c.in-Ok.after c.self.invariant.role
    (ap (λ (s : State). s.source) c.self.view_is) c.as_str.ensures.text c.in-Ok.ensures.told
