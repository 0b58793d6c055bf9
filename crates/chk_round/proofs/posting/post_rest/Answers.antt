use Rattle.std.proofs.Common.{Err}
use Rattle.std.proofs.lemmas.Result.{err_from_is_err_and}
use Rattle.chk_round.proofs.Polls.{talked_ends, talked_more, talked_none, talked_own}
use Rattle.chk_round.proofs.Acts.{rest_then}
use Rattle.chk_round.proofs.Lasting.{inside_late, went}
use Rattle.chk_round.proofs.NoRead.{work_late}
use Rattle.chk_round.proofs.posting.post_rest.Goals as goal

pub posts-init : goal.posts-init
posts-init g c =
    talked_none c.args.collector.now c.args.agent.now (g.S.Site.told c.args.site.now) (g.S.Site.fault_count c.args.site.now)

pub posts-preserved : goal.posts-preserved
posts-preserved g c =
    talked_more c.posts.invariant c.post_next.new.collector c.post_next.new.agent
    (g.S.Site.fault_count c.post_next.new.site) c.in_ok-post_next.ensures.joint c.post_next.ensures.same
    c.in_ok-post_next.ensures.some.same c.in_ok-post_next.ensures.sends c.in_ok-post_next.ensures.acts c.in_ok-post_next.ensures.rows
    c.in_ok-post_next.ensures.cause

pub returns-in_err-post_next-clause-joint : goal.returns-in_err-post_next-clause-joint
returns-in_err-post_next-clause-joint g c stamped started acting run =
    let p = err_from_is_err_and c.from_residual.result c.from_residual.ensures.1 in
    rw (p.1, p.2)
    (talked_ends c.posts.invariant c.post_next.new.collector c.post_next.new.agent 0
    (Err c.in_err-post_next.field-0.0) c.in_err-post_next.ensures.joint stamped started acting run)

pub returns-clause-sends : goal.returns-clause-sends
returns-clause-sends g c = c.posts.invariant.sends

pub returns-in_err-post_next-clause-last : goal.returns-in_err-post_next-clause-last
returns-in_err-post_next-clause-last g c =
    let p = err_from_is_err_and c.from_residual.result c.from_residual.ensures.1 in
    rw (p.1, p.2) (inside_late (Unit {0}) (Unit {0}) c.in_err-post_next.field-0.0 c.posts.invariant.acts c.in_err-post_next.ensures.last)

pub returns-clause-last : goal.returns-clause-last
returns-clause-last g c = went c.posts.invariant.acts

pub returns-in_err-post_next-clause-only : goal.returns-in_err-post_next-clause-only
returns-in_err-post_next-clause-only g c =
    let p = err_from_is_err_and c.from_residual.result c.from_residual.ensures.1 in
    rw (p.1, p.2) (c.in_err-post_next.ensures.only)

pub returns-in_err-post_next-clause-shown : goal.returns-in_err-post_next-clause-shown
returns-in_err-post_next-clause-shown g c =
    let p = err_from_is_err_and c.from_residual.result c.from_residual.ensures.1 in
    rw (p.1, p.2) (work_late (Unit {0}) (Unit {0}) c.in_err-post_next.field-0.0 (g.S.Site.told c.post_next.new.site) c.posts.invariant.acts c.in_err-post_next.ensures.shown)

pub returns-in_err-post_next-clause-acts : goal.returns-in_err-post_next-clause-acts
returns-in_err-post_next-clause-acts g c = rest_then c.posts.invariant.acts c.in_err-post_next.ensures.acts

pub returns-clause-acts : goal.returns-clause-acts
returns-clause-acts g c = c.posts.invariant.acts

pub returns-in_err-post_next-clause-rows : goal.returns-in_err-post_next-clause-rows
returns-in_err-post_next-clause-rows g c stamped started acting run =
    let p = err_from_is_err_and c.from_residual.result c.from_residual.ensures.1 in
    rw (p.1, p.2)
    (talked_own c.posts.invariant c.post_next.new.collector c.post_next.new.agent 0
    (Err c.in_err-post_next.field-0.0) c.in_err-post_next.ensures.rows stamped started acting run)

pub returns-clause-rows : goal.returns-clause-rows
returns-clause-rows g c = c.posts.invariant.rows
