use Rattle.std.proofs.Common.{inr, ◌∙◌, arith}
use Rattle.chk_agent_drain.proofs.PostingRest.{posted_ends, posted_none, posted_polls, posted_ready}
use Rattle.chk_agent_drain.proofs.draining.deliver.Goals as goal

pub returns-in-Some : goal.returns-in-Some
returns-in-Some g c =
    posted_ends c.args.now c.args.polls c.args.agent.now c.post_rest.new.agent c.post_rest.result
    c.post_rest.ensures
    c.in-Some.end c.in-Some.is

pub poll_until_free-requires : goal.poll_until_free-requires
poll_until_free-requires g c =
    let most = c.most_rows-rows.ensures.most in
    record {
      ready = posted_ready c.args.now c.args.polls c.args.agent.now c.post_rest.new.agent
          c.post_rest.result
          c.post_rest.ensures c.in_default.is ∙ c.requires.ready;
      few = omega (arith, most);
      wants = inr (posted_none c.args.now c.args.polls c.args.agent.now c.post_rest.new.agent
          c.post_rest.result
          c.post_rest.ensures c.in_default.is);
    }

pub returns : goal.returns
returns g c =
    posted_polls c.args.now c.args.polls c.args.agent.now c.post_rest.new.agent c.post_rest.result
    c.post_rest.ensures
    c.in_default.is c.most_rows-rows.result c.most_rows-rows.ensures.most
    c.most_rows-rows.ensures.some
    c.poll_until_free.new.agent c.poll_until_free.result c.poll_until_free.ensures
