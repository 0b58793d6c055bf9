use Rattle.std.proofs.Common.{Ok, ap, ◌∙◌, arith}
use Rattle.chk_agent_drain.proofs.PollingOn.{polled_begun, polled_next, polled_last, polled_good, polled_wanting}
use Rattle.chk_agent_drain.proofs.polling.poll_on.Goals as goal

pub loop-below-init : goal.loop-below-init
loop-below-init g c = record {
  on = polled_begun c.none-tries.result c.args.agent.now (g.S.Site.told c.args.site.now)
      (g.S.Site.fault_count c.args.site.now) (let some = c.addresses-addresses.ensures.some in
      let all = c.addresses-addresses.ensures.count in omega (arith, some, all))
      c.none-tries.ensures.count c.none-tries.ensures.failed c.none-tries.ensures.tried;
  addresses = c.addresses-addresses.ensures.count;
}

pub returns-in-Ok-Ok : goal.returns-in-Ok-Ok
returns-in-Ok-Ok g c =
    polled_good c.loop-below.tries c.args.agent.now c.loop-below.agent c.poll_once.new.agent _ _ _
    c.loop-below.invariant.on c.poll_once.result c.poll_once.ensures.state
    c.poll_once.ensures.talks c.poll_once.ensures.cause
    c.in-Ok-Ok.below (c.in-Ok-Ok.is ∙ ap Ok c.in-Ok-Ok.field-0-is)

pub returns-in-Err : goal.returns-in-Err
returns-in-Err g c =
    polled_wanting c.loop-below.tries c.args.agent.now c.loop-below.agent c.poll_once.new.agent _ _
    _
    c.loop-below.invariant.on c.poll_once.result c.poll_once.ensures.state
    c.poll_once.ensures.talks c.poll_once.ensures.cause
    c.in-Err.fault c.in-Err.is

pub returns-then-tries-addresses : goal.returns-then-tries-addresses
returns-then-tries-addresses g c =
    polled_last c.loop-below.tries c.args.agent.now c.loop-below.agent c.poll_once.new.agent _ _ _
    c.loop-below.invariant.on c.poll_once.result c.poll_once.ensures.state
    c.poll_once.ensures.talks c.poll_once.ensures.cause
    c.in-Ok-Err.miss (c.in-Ok-Err.is ∙ ap Ok c.in-Ok-Err.field-0-is) c.missed-tries.result
    c.missed-tries.ensures.failed c.missed-tries.ensures.tried c.answer.result
    (let more = c.loop-below.invariant.on.more in let count = c.missed-tries.ensures.count in
    let past = c.if-tries-addresses.true in let all = c.loop-below.invariant.addresses in
    omega (arith, more, count, past, all))
    c.answer.ensures

pub loop-below-smaller : goal.loop-below-smaller
loop-below-smaller g c =
    let count = c.missed-tries.ensures.count in let before = c.if-tries-addresses.false in
    omega (arith, count, before)

pub loop-below-preserved : goal.loop-below-preserved
loop-below-preserved g c = record {
  on = polled_next c.loop-below.tries c.args.agent.now c.loop-below.agent c.poll_once.new.agent _ _
      _
      c.loop-below.invariant.on c.poll_once.result c.poll_once.ensures.state
      c.poll_once.ensures.talks c.poll_once.ensures.cause
      c.in-Ok-Err.miss (c.in-Ok-Err.is ∙ ap Ok c.in-Ok-Err.field-0-is) c.missed-tries.result
      c.missed-tries.ensures.failed c.missed-tries.ensures.tried
      (let before = c.if-tries-addresses.false in let all = c.loop-below.invariant.addresses in
      omega (arith, before, all));
  addresses = c.loop-below.invariant.addresses;
}
