use Rattle.std.proofs.Common.{◌<◌, length, subst, refl, arith}
use Rattle.chk_chunk.specs.Lent.{AreValid}
use Rattle.chk_agent_delivery.specs.States.{State}
use Rattle.chk_agent_delivery.specs.Fields.{delivery_view}
use Rattle.chk_agent_delivery.specs.Scripts.{empty}
use Rattle.chk_agent_delivery.proofs.PostTold.{post_leads}
use Rattle.chk_agent_delivery.proofs.PostStates.{no_free, some_waits}
use Rattle.chk_agent_delivery.proofs.delivery.Delivery.post.Goals as goal

pub returns-then-is_empty-clause-state : goal.returns-then-is_empty-clause-state
returns-then-is_empty-clause-state g c = rw (← c.self.view_is) (empty (c.if-is_empty.ensures.0 refl))

pub returns-then-free-eq0-clause-state : goal.returns-then-free-eq0-clause-state
returns-then-free-eq0-clause-state g c =
    rw (← c.self.view_is)
    (no_free c.args.who.now (delivery_view c.self.inside) c.free.result c.if-is_empty.ensures.1 c.free.ensures.free c.if-free-eq0.true)

pub send_post-requires-clause-some : goal.send_post-requires-clause-some
send_post-requires-clause-some g c =
    subst (λ (s : State). 0 < length s.queue.chunks) c.self.view_is (some_waits c.self.inside.queue.chunks c.if-is_empty.ensures.1)

pub send_post-requires-clause-free : goal.send_post-requires-clause-free
send_post-requires-clause-free g c =
    let free = c.free.ensures.free in
    let some = c.if-free-eq0.false in
    subst (λ (s : State). length s.table.rows < s.table.room) c.self.view_is (omega (arith, free, some))

pub returns-clause-told : goal.returns-clause-told
returns-clause-told g c stamped b is known fits =
    post_leads stamped b c.args.who.now c.args.self.now
    (subst (λ (t : State). AreValid t.queue.chunks) c.self.view_is c.self.invariant.valid) is known fits c.send_post.ensures.state
