use Rattle.chk_collector.proofs.Handling.{keeps_same, posts_keep}
use Rattle.std.proofs.Common.{◌∷◌, arith, length}
use Rattle.chk_site.proofs.Leads.{leads_as}
use Rattle.chk_http_grammar.specs.Messages.{IsPostOf}
use Rattle.chk_collector.specs.Answering.{taken_with}
use Rattle.chk_collector.proofs.MayReply.{refused_told, are_posted, post_told, post_short}
use Rattle.chk_collector.proofs.Outcome.{post_replied, bad_post_replied, may_have_risen, has_not_risen, post_unanswered, refused_unanswered}
use Rattle.chk_collector.proofs.collector.Collector.answer_post.Goals as goal

pub returns-in-Err-clause-told : goal.returns-in-Err-clause-told
returns-in-Err-clause-told g c stamped t request earlier others post =
    refused_told stamped c.args.self.now t request earlier others 400 _ c.refusal.result _
    (λ e. omega (arith, e)) c.refusal.ensures.accepted

pub returns-in-Err-clause-replied : goal.returns-in-Err-clause-replied
returns-in-Err-clause-replied g c request post =
    bad_post_replied request c.args.body.now c.in-Err.fault c.args.self.now _ _ c.refusal.result post c.in-Err.ensures.fault
    c.in-Err.ensures.every_post (rw c.chunk_fault_name.ensures at c.refusal.ensures.written)

pub returns-in-Ok-clause-told : goal.returns-in-Ok-clause-told
returns-in-Ok-clause-told g c stamped t request earlier others post =
    let is : IsPostOf c.in-Ok.post.left request = (c.args.body.now, post, c.in-Ok.ensures.post) in
    leads_as (λ h x. x)
    (post_told stamped c.put_all-done.new.self t request earlier others c.in-Ok.post.left
    c.put_all-done.new.lines c.put_all-done.result c.reply.result is
    (post_short c.put_all-done.new.self c.in-Ok.post.left c.put_all-done.new.lines c.put_all-done.result c.in-Ok.ensures.post.few c.put_all-done.ensures.lines)
    (rw c.as_slice.ensures at c.reply.ensures.accepted))
    (c.put_all-done.ensures.told stamped (taken_with t request earlier ∷ others) (are_posted t
    request earlier others c.in-Ok.post.left is))

pub returns-in-Ok-clause-replied : goal.returns-in-Ok-clause-replied
returns-in-Ok-clause-replied g c request post =
    post_replied request c.in-Ok.post.left c.args.self.now c.put_all-done.new.self _ _ _ _ c.put_all-done.new.lines c.put_all-done.result c.reply.result
    (c.args.body.now, post, c.in-Ok.ensures.post) c.put_all-done.ensures.lines c.put_all-done.ensures.puts c.put_all-done.ensures.leaves c.put_all-done.ensures.full c.put_all-done.ensures.own
    c.put_all-done.ensures.only c.put_all-done.ensures.spent
    c.put_all-done.ensures.last c.put_all-done.ensures.cause
    (rw c.as_slice.ensures at c.reply.ensures.written)

pub returns-in-Ok-clause-count : goal.returns-in-Ok-clause-count
returns-in-Ok-clause-count g c = may_have_risen _ _ c.put_all-done.result c.reply.result c.put_all-done.ensures.cause

pub returns-in-Err-clause-count : goal.returns-in-Err-clause-count
returns-in-Err-clause-count g c = has_not_risen (g.S.Site.fault_count c.args.site.now) c.refusal.result

pub returns-in-Ok-clause-unanswered : goal.returns-in-Ok-clause-unanswered
returns-in-Ok-clause-unanswered g c request post =
    post_unanswered request c.in-Ok.post.left c.args.self.now c.put_all-done.new.self c.put_all-done.result c.reply.result
    (c.args.body.now, post, c.in-Ok.ensures.post) c.put_all-done.ensures.puts c.put_all-done.ensures.leaves c.put_all-done.ensures.own

pub returns-in-Err-clause-unanswered : goal.returns-in-Err-clause-unanswered
returns-in-Err-clause-unanswered g c request post = refused_unanswered request c.args.self.now c.refusal.result _

pub returns-in-Ok-clause-seen : goal.returns-in-Ok-clause-seen
returns-in-Ok-clause-seen g c =
    posts_keep (length c.in-Ok.post.left) c.args.self.now c.put_all-done.new.self c.put_all-done.result c.put_all-done.ensures.puts c.put_all-done.ensures.leaves

pub returns-in-Err-clause-seen : goal.returns-in-Err-clause-seen
returns-in-Err-clause-seen g c = keeps_same c.args.self.now
