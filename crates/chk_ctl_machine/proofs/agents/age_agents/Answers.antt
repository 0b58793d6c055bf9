use Rattle.std.proofs.Common.{arith, refl}
use Rattle.chk_ctl_machine.specs.Agents.{AgesAgent}
use Rattle.chk_ctl_machine.specs.Turns.{none_left}
use Rattle.chk_ctl_machine.proofs.Steps.{rest_in_place, turn_in_place}
use Rattle.chk_ctl_machine.proofs.agents.age_agents.Goals as goal

pub loop-agent-init : goal.loop-agent-init
loop-agent-init g c = (none_left, refl)

pub loop-agent-preserved : goal.loop-agent-preserved
loop-agent-preserved g c =
    let l = c.loop-agent in (
      turn_in_place AgesAgent c.args.agents.now l.agents l.agent-index c.agent-item.result _ _ _ _
          (omega (arith, c.loop-agent-test.true, l.auto.agents))
          (omega (arith, c.loop-agent-test.true, l.auto.agents)) l.invariant.0 l.invariant.1
          (record { age = c.age_of-agent.result; is = refl; asked = c.age_of-agent.ensures }),
      rest_in_place c.args.agents.now l.agents l.agent-index _ l.invariant.1,
    )
