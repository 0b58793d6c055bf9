use Rattle.chk_site.proofs.Leads.{leads_as}
use Rattle.chk_sink.specs.States.{process}
use Rattle.chk_collector.specs.Answering.{taken_with}
use Rattle.chk_collector.proofs.MayReply.{poll_told, poll_short}
use Rattle.chk_collector.proofs.Outcome.{poll_replied, may_have_risen, poll_unanswered}
use Rattle.chk_collector.proofs.collector.Collector.answer_poll.Goals as goal
use Rattle.std.proofs.Common.{◌∷◌}

pub returns-clause-told : goal.returns-clause-told
returns-clause-told g c stamped t request earlier others poll =
    leads_as (λ h x. x)
    (poll_told stamped c.args.self.now t request earlier others c.in-Some.stems
    c.count_all-done.new.lines c.count_all-done.result c.reply.result
    (poll c.in-Some.stems c.in-Some.ensures.some)
    (poll_short (process c.args.self.now) c.in-Some.stems c.count_all-done.new.lines c.count_all-done.result _ _ c.in-Some.ensures.some.few c.count_all-done.ensures.lines)
    (rw c.as_slice.ensures at c.reply.ensures.accepted))
    (c.count_all-done.ensures.told stamped (taken_with t request earlier ∷ others) t)

pub returns-clause-replied : goal.returns-clause-replied
returns-clause-replied g c request poll =
    poll_replied request c.in-Some.stems c.args.self.now _ _ _ _ c.count_all-done.new.lines c.count_all-done.result c.reply.result
    (poll c.in-Some.stems c.in-Some.ensures.some) (λ stamped t earlier others.
    c.count_all-done.ensures.told stamped (taken_with t request earlier ∷ others) t)
    c.count_all-done.ensures.own c.count_all-done.ensures.lines c.count_all-done.ensures.only c.count_all-done.ensures.damaged
    c.count_all-done.ensures.last c.count_all-done.ensures.cause
    (rw c.as_slice.ensures at c.reply.ensures.written)

pub returns-clause-count : goal.returns-clause-count
returns-clause-count g c = may_have_risen _ _ c.count_all-done.result c.reply.result c.count_all-done.ensures.cause

pub returns-clause-unanswered : goal.returns-clause-unanswered
returns-clause-unanswered g c request poll =
    poll_unanswered request c.in-Some.stems c.args.self.now c.count_all-done.result c.reply.result (poll c.in-Some.stems c.in-Some.ensures.some)
    c.count_all-done.ensures.own
