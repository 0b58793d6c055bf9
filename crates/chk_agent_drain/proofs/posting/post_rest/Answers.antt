use Rattle.std.proofs.Common.{sym, ◌∙◌, true≢false}
use Rattle.chk_agent_drain.proofs.PostingRest.{posting_begun, posting_done, posting_ends, posting_next, posting_ready, posting_smaller}
use Rattle.chk_agent_drain.proofs.posting.post_rest.Goals as goal

pub posts-init : goal.posts-init
posts-init g c =
    posting_begun c.args.now c.args.polls c.args.agent.now (g.S.Site.told c.args.site.now)
    (g.S.Site.fault_count c.args.site.now)

pub post_next-requires : goal.post_next-requires
post_next-requires g c = record {
  ready = posting_ready c.args.now c.args.polls c.args.agent.now c.posts.agent c.posts.invariant ∙
      c.requires.ready;
  waiting = λ none. true≢false (sym (c.is_empty.ensures.1 none) ∙ c.posts-test.true);
}

pub returns-in-Some : goal.returns-in-Some
returns-in-Some g c =
    posting_ends c.args.now c.args.polls c.args.agent.now c.posts.agent c.posts.invariant
    (λ none. true≢false (sym (c.is_empty.ensures.1 none) ∙ c.posts-test.true))
    c.post_next.new.agent c.post_next.result c.post_next.ensures c.in-Some.end c.in-Some.is

pub posts-smaller : goal.posts-smaller
posts-smaller g c =
    posting_smaller c.args.now c.args.polls c.args.agent.now c.posts.agent c.posts.invariant
    (λ none. true≢false (sym (c.is_empty.ensures.1 none) ∙ c.posts-test.true))
    c.post_next.new.agent c.post_next.result c.post_next.ensures c.in_default.is

pub posts-preserved : goal.posts-preserved
posts-preserved g c =
    posting_next c.args.now c.args.polls c.args.agent.now c.posts.agent c.posts.invariant
    (λ none. true≢false (sym (c.is_empty.ensures.1 none) ∙ c.posts-test.true))
    c.post_next.new.agent c.post_next.result c.post_next.ensures c.in_default.is

pub returns : goal.returns
returns g c =
    posting_done c.args.now c.args.polls c.args.agent.now c.posts.agent c.posts.invariant
    (c.is_empty.ensures.0 c.posts-test.false)
