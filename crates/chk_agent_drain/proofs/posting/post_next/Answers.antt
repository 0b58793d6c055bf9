use Rattle.std.proofs.Common.{inl, ◌∙◌, refl, arith}
use Rattle.chk_agent_drain.proofs.PostingRest.{freed_ends, freed_posts, freed_ready, freed_room, freed_waiting}
use Rattle.chk_agent_drain.proofs.posting.post_next.Goals as goal

pub poll_until_free-requires : goal.poll_until_free-requires
poll_until_free-requires g c =
    let most = c.most_rows-sound.ensures.most in
    let some = c.most_rows-sound.ensures.some in
    record { ready = c.requires.ready; few = omega (arith, most, some); wants = inl refl }

pub returns-in-Some : goal.returns-in-Some
returns-in-Some g c =
    freed_ends c.args.now c.args.polls c.args.agent.now c.poll_until_free.new.agent
    c.poll_until_free.result
    (c.poll_until_free.ensures c.args.now) c.in-Some.end c.in-Some.is

pub post_on-requires : goal.post_on-requires
post_on-requires g c =
    let freed = c.poll_until_free.ensures c.args.now in
    record {
      ready = freed_ready c.args.now c.args.polls c.args.agent.now c.poll_until_free.new.agent
          c.poll_until_free.result freed c.in_default.is ∙ c.requires.ready;
      waiting = freed_waiting c.args.now c.args.polls c.args.agent.now c.poll_until_free.new.agent
          c.poll_until_free.result freed c.in_default.is c.requires.waiting;
      room = freed_room c.args.now c.args.polls c.args.agent.now c.poll_until_free.new.agent
          c.poll_until_free.result freed c.in_default.is;
    }

pub returns : goal.returns
returns g c =
    freed_posts c.args.now c.args.polls c.args.agent.now c.poll_until_free.new.agent
    c.poll_until_free.result
    (c.poll_until_free.ensures c.args.now) c.in_default.is c.post_on.new.agent c.post_on.result
    c.post_on.ensures
