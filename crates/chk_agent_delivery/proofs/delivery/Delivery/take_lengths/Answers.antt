use Rattle.std.proofs.Common.{refl, arith}
use Rattle.chk_agent_delivery.specs.Fields.{delivery_view}
use Rattle.chk_agent_delivery.proofs.LengthStates.{lengths_good, lengths_bad, seen_less, seen_sound}
use Rattle.chk_agent_delivery.proofs.delivery.Delivery.take_lengths.Goals as goal

pub returns-in-Ok-clause-taken : goal.returns-in-Ok-clause-taken
returns-in-Ok-clause-taken c =
    let s = delivery_view c.self.inside in
    rw (← c.self.view_is, c.good.ensures)
    (lengths_good s c.see_all.new.acks c.self.inside.poll c.in-Some.poll c.as_slice-stems.result.now c.args.bytes.now c.in-Ok.lines
    c.first_below-below.result refl c.in-Some.is c.as_slice-stems.ensures.value c.in-Ok.ensures.good.0 c.in-Ok.ensures.good.1 c.see_all.ensures
    c.first_below-below.ensures)

pub returns-in-Err-clause-taken : goal.returns-in-Err-clause-taken
returns-in-Err-clause-taken c =
    let s = delivery_view c.self.inside in
    rw (← c.self.view_is, c.failed.ensures.turned)
    (lengths_bad s c.self.inside.poll c.in-Some.poll c.as_slice-stems.result.now c.args.bytes.now c.in-Err.code refl c.in-Some.is
    c.as_slice-stems.ensures.value c.in-Err.ensures.refused.0 c.in-Err.ensures.refused.1)

pub invariant_of-self : goal.invariant_of-self
invariant_of-self c =
    rw c.good.ensures (seen_sound (delivery_view c.self.inside) c.see_all.new.acks c.in-Ok.lines c.self.invariant c.see_all.ensures)

pub overflow_sub-rows : goal.overflow_sub-rows
overflow_sub-rows c =
    let same = (seen_less c.in-Ok.lines c.self.inside.acks c.see_all.new.acks c.see_all.ensures).room in
    let most = c.self.invariant.most in
    omega (arith, same, most, c.free.ensures.free)

pub first_below-below-requires-clause-rows : goal.first_below-below-requires-clause-rows
first_below-below-requires-clause-rows c =
    let same = (seen_less c.in-Ok.lines c.self.inside.acks c.see_all.new.acks c.see_all.ensures).room in
    let most = c.self.invariant.most in
    omega (arith, same, most, c.free.ensures.free)
