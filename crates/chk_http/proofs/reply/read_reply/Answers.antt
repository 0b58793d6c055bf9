use Rattle.std.proofs.Common.{◌∙◌, inl, inr, Err, subst, ap, refl}
use Rattle.std.proofs.lemmas.Bool.{false≢true}
use Rattle.std.proofs.lemmas.Result.{err_from_is_err_and}
use Rattle.chk_http.specs.Replies.{AnswersReplied}
use Rattle.chk_http.proofs.HeadAnswers.{same_fault}
use Rattle.chk_http.proofs.ReplyTable.{replied_at-head, all_rows}
use Rattle.chk_http.proofs.reply.read_reply.Goals as goal

pub returns-in_err-head : goal.returns-in_err-head
returns-in_err-head c =
    let p = err_from_is_err_and c.from_residual.result c.from_residual.ensures.1 in
    let is = p.1 ∙ ap Err p.2 in
    all_rows c.args.bytes.now c.from_residual.result (inl (
      c.in_err-head.field-0.0,
      is,
      c.in_err-head.ensures.refused,
      (λ h behind has. false≢true (c.in_err-head.ensures.found h behind has)),
      (λ endless. same_fault _ _ _ refl (c.in_err-head.ensures.endless endless)),
    ))

pub returns : goal.returns
returns c =
    let found = c.in_ok-head.ensures.head in
    all_rows c.args.bytes.now c.read_replied.result (inr (
      found.0,
      _,
      found.2,
      subst (λ a. AnswersReplied a c.read_replied.result) (replied_at-head c.args.bytes.now c.in_ok-head.head found.0 found.1) c.read_replied.ensures,
    ))
