use Rattle.chk_agent_delivery.specs.Scripts.{good, bad}
use Rattle.chk_agent_delivery.proofs.delivery.Delivery.take_reply.Goals as goal

pub returns-in-Ok : goal.returns-in-Ok
returns-in-Ok c = rw c.take_lines.ensures (good c.in-Ok.lines c.in-Ok.ensures.good.0 c.in-Ok.ensures.good.1)

pub returns-in-Err : goal.returns-in-Err
returns-in-Err c = rw (← c.self.view_is, c.failed.ensures.turned) (bad c.in-Err.code c.in-Err.ensures.refused.0 c.in-Err.ensures.refused.1)
