use Rattle.std.proofs.Common.{Err, ap, ◌∙◌, refl}
use Rattle.std.proofs.lemmas.Result.{err_from_is_err_and}
use Rattle.chk_control.specs.declared.answers.Answer.TheVariants.{Reloaded}
use Rattle.chk_control.specs.Answers.{answer_text}
use Rattle.chk_agent.specs.declared.answers.Then.TheVariants.{Go}
use Rattle.chk_agent.specs.Replies.{reply_of}
use Rattle.chk_agent.specs.Turns.{with_delivery}
use Rattle.chk_agent.specs.Fields.{agent_view}
use Rattle.chk_agent.proofs.CommandingPlain.{did_as, unmade_as}
use Rattle.chk_agent.proofs.agent.Agent.reload.Goals as goal

pub returns-in_err-reply : goal.returns-in_err-reply
returns-in_err-reply c =
    let p = err_from_is_err_and c.from_residual.result c.from_residual.ensures.1 in
    unmade_as _ c.args.self.now c.from_residual.result (p.1 ∙ ap Err (p.2 ∙ c.in_err-reply.ensures))

pub returns : goal.returns
returns c =
    let v = agent_view c.self.inside in
    rw (← c.self.view_is)
    (did_as _ v _ c.in_ok-reply.reply _ refl
    (c.in_ok-reply.ensures ∙ ap (λ n. reply_of (answer_text
    (Reloaded n)) Go) c.addresses-count.ensures.count)
    (ap (with_delivery v) c.first_address.ensures))
