use Rattle.std.proofs.Common.{◌++◌, Err, length, ap, ◌∙◌, refl}
use Rattle.std.proofs.lemmas.Result.{err_from_is_err_and}
use Rattle.chk_control.specs.declared.answers.Answer.TheVariants.{Listed}
use Rattle.chk_control.specs.Answers.{answer_text}
use Rattle.chk_agent.specs.declared.answers.Then.TheVariants.{Go}
use Rattle.chk_agent.specs.Replies.{reply_of}
use Rattle.chk_agent.specs.Commands.{live_from, list_lines}
use Rattle.chk_agent.specs.Fields.{agent_view}
use Rattle.chk_agent.proofs.CommandingPlain.{did_as, unmade_as}
use Rattle.chk_agent.proofs.agent.Agent.list.Goals as goal

pub returns-in_err-count : goal.returns-in_err-count
returns-in_err-count c =
    let p = err_from_is_err_and c.from_residual.result c.from_residual.ensures.1 in
    unmade_as _ c.args.self.now c.from_residual.result (p.1 ∙ ap Err p.2)

pub returns-in_err-write_answer : goal.returns-in_err-write_answer
returns-in_err-write_answer c =
    let r = c.from_residual-in_err-write_answer in
    let p = err_from_is_err_and r.result r.ensures.1 in
    unmade_as _ c.args.self.now r.result (p.1 ∙ ap Err p.2)

pub returns : goal.returns
returns c =
    let v = agent_view c.self.inside in
    let ends = v.delivery.table.committed in
    let lines =
    c.in_ok-count.ensures.text
    ∙ (ap (λ b. b ++ list_lines c.as_slice.result.now ends) c.new-text.ensures
    ∙ ap (λ xs. list_lines xs ends) c.as_slice.ensures) in
    let count = c.in_ok-count.ensures.count
    ∙ ap (λ xs. length (live_from 0 xs)) c.as_slice.ensures in
    rw (← c.self.view_is)
    (did_as _ v v _ _ refl
    (ap (λ t. reply_of t Go)
    (c.in_ok-write_answer.ensures.ok
    ∙ (ap (λ t. t ++ answer_text (Listed c.in_ok-count.count)) lines
    ∙ ap (λ n. list_lines v.adaptors ends ++ answer_text (Listed n)) count)))
    refl)
