use Rattle.chk_collector.proofs.Handling.{keeps_same}
use Rattle.std.proofs.Common.{refl, sym, ◌∙◌}
use Rattle.chk_collector.proofs.MayReply.{refused_told}
use Rattle.chk_collector.proofs.Outcome.{refused_replied, has_not_risen, refused_unanswered}
use Rattle.chk_collector.proofs.Refused.{refused_by, bad_code}
use Rattle.chk_collector.proofs.collector.Collector.respond.Goals as goal

pub returns-in-Err-clause-told : goal.returns-in-Err-clause-told
returns-in-Err-clause-told g c stamped t earlier others =
    refused_told stamped c.args.self.now t c.args.request.now earlier others c.code.result _
    c.refusal.result _ (λ e. bad_code c.in-Err.fault (sym c.code.ensures ∙ e))
    c.refusal.ensures.accepted

pub returns-in-Err-clause-replied : goal.returns-in-Err-clause-replied
returns-in-Err-clause-replied g c =
    refused_replied c.args.request.now c.in-Err.fault c.args.self.now _ _ c.refusal.result
    (refused_by c.args.request.now c.in-Err.fault (record {
      post = c.in-Err.ensures.post;
      poll = c.in-Err.ensures.poll;
      bad_path = c.in-Err.ensures.bad_path;
      bad_method = c.in-Err.ensures.bad_method;
      bad_line = c.in-Err.ensures.bad_line;
      no_length = c.in-Err.ensures.no_length;
      bad_head = c.in-Err.ensures.bad_head;
      bad_length = c.in-Err.ensures.bad_length;
      too_large = c.in-Err.ensures.too_large;
      endless = c.in-Err.ensures.endless;
      long_body = c.in-Err.ensures.long_body;
      not_yet = c.in-Err.ensures.not_yet;
      cut_body = c.in-Err.ensures.cut_body;
    }))
    (rw (c.code.ensures, c.name.ensures) at c.refusal.ensures.written)

pub returns-in-Ok-Post-clause-told : goal.returns-in-Ok-Post-clause-told
returns-in-Ok-Post-clause-told g c stamped t earlier others =
    c.answer_post.ensures.told stamped t c.args.request.now earlier others
    ((rw c.in-Ok-Post.field-0-is at (c.in-Ok-Post.ensures.post c.in-Ok-Post.body.now)).0 refl)

pub returns-in-Ok-Acks-clause-told : goal.returns-in-Ok-Acks-clause-told
returns-in-Ok-Acks-clause-told g c stamped t earlier others =
    c.answer_poll.ensures.told stamped t c.args.request.now earlier others
    (λ stems query. (rw c.in-Ok-Acks.field-0-is at (c.in-Ok-Acks.ensures.poll stems)).0 query)

pub returns-in-Err-clause-count : goal.returns-in-Err-clause-count
returns-in-Err-clause-count g c = has_not_risen (g.S.Site.fault_count c.args.site.now) c.refusal.result

pub returns-in-Err-clause-unanswered : goal.returns-in-Err-clause-unanswered
returns-in-Err-clause-unanswered g c = refused_unanswered c.args.request.now c.args.self.now c.refusal.result _

pub returns-in-Err-clause-seen : goal.returns-in-Err-clause-seen
returns-in-Err-clause-seen g c = keeps_same c.args.self.now

pub returns-in-Ok-Acks-clause-seen : goal.returns-in-Ok-Acks-clause-seen
returns-in-Ok-Acks-clause-seen g c = keeps_same c.args.self.now
