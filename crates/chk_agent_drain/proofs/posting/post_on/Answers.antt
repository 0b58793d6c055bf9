use Rattle.std.proofs.Common.{Ok, ap, ◌∙◌, arith}
use Rattle.chk_agent_drain.proofs.PostingOn.{posted_begun, posted_next, posted_last, posted_good, posted_wanting}
use Rattle.chk_agent_drain.proofs.posting.post_on.Goals as goal

pub loop-miss-init : goal.loop-miss-init
loop-miss-init g c = record {
  on = posted_begun c.args.now c.none-tries.result c.args.agent.now (g.S.Site.told c.args.site.now)
      (g.S.Site.fault_count c.args.site.now) (let some = c.addresses-addresses.ensures.some in
      let all = c.addresses-addresses.ensures.count in omega (arith, some, all))
      c.none-tries.ensures.count c.none-tries.ensures.failed c.none-tries.ensures.tried;
  addresses = c.addresses-addresses.ensures.count;
}

pub returns-in-Ok-Ok : goal.returns-in-Ok-Ok
returns-in-Ok-Ok g c =
    posted_good c.args.now c.loop-miss.tries c.args.agent.now c.loop-miss.agent
    c.post_once.new.agent _ _ _
    c.loop-miss.invariant.on c.post_once.result c.post_once.ensures.state c.post_once.ensures.talks
    c.post_once.ensures.cause
    (c.in-Ok-Ok.is ∙ ap Ok c.in-Ok-Ok.field-0-is)

pub returns-in-Err : goal.returns-in-Err
returns-in-Err g c =
    posted_wanting c.args.now c.loop-miss.tries c.args.agent.now c.loop-miss.agent
    c.post_once.new.agent _ _ _
    c.loop-miss.invariant.on c.post_once.result c.post_once.ensures.state c.post_once.ensures.talks
    c.post_once.ensures.cause
    c.in-Err.fault c.in-Err.is

pub returns-then-tries-addresses : goal.returns-then-tries-addresses
returns-then-tries-addresses g c =
    posted_last c.args.now c.loop-miss.tries c.args.agent.now c.loop-miss.agent
    c.post_once.new.agent _ _ _
    c.loop-miss.invariant.on c.post_once.result c.post_once.ensures.state c.post_once.ensures.talks
    c.post_once.ensures.cause
    c.in-Ok-Err.miss (c.in-Ok-Err.is ∙ ap Ok c.in-Ok-Err.field-0-is) c.missed-tries.result
    c.missed-tries.ensures.failed c.missed-tries.ensures.tried c.answer.result
    (let more = c.loop-miss.invariant.on.more in let count = c.missed-tries.ensures.count in
    let past = c.if-tries-addresses.true in let all = c.loop-miss.invariant.addresses in
    omega (arith, more, count, past, all))
    c.answer.ensures

pub loop-miss-smaller : goal.loop-miss-smaller
loop-miss-smaller g c =
    let count = c.missed-tries.ensures.count in let before = c.if-tries-addresses.false in
    omega (arith, count, before)

pub loop-miss-preserved : goal.loop-miss-preserved
loop-miss-preserved g c = record {
  on = posted_next c.args.now c.loop-miss.tries c.args.agent.now c.loop-miss.agent
      c.post_once.new.agent _ _ _
      c.loop-miss.invariant.on c.post_once.result c.post_once.ensures.state
      c.post_once.ensures.talks c.post_once.ensures.cause
      c.in-Ok-Err.miss (c.in-Ok-Err.is ∙ ap Ok c.in-Ok-Err.field-0-is) c.missed-tries.result
      c.missed-tries.ensures.failed c.missed-tries.ensures.tried
      (let before = c.if-tries-addresses.false in let all = c.loop-miss.invariant.addresses in
      omega (arith, before, all));
  addresses = c.loop-miss.invariant.addresses;
}
