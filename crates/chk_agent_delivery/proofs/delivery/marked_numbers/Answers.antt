use Rattle.std.proofs.Common.{◌++◌, ◌∷◌, [], ap, ◌∙◌, sym, true, false}
use Rattle.std.proofs.lemmas.List.{append-nil}
use Rattle.chk_agent_delivery.proofs.Marked.{marked_next}
use Rattle.chk_agent_delivery.proofs.delivery.marked_numbers.Goals as goal
use Rattle.chk_agent_delivery.proofs.delivery.marked_numbers.Goals.{then-mark+in_ok-push, else-mark}

pub loop-number-preserved : goal.loop-number-preserved
loop-number-preserved c =
    let marks = c.args.marks.now in
    let i = c.loop-number.number in
    elim c.if-mark.branch [
      | then-mark+in_ok-push w ↦
          let next = marked_next marks i true c.loop-number-test.true w.if-mark.true in
          rw w.numbers-is (w.in_ok-push.ensures.items ∙ ap (λ l. l ++ i ∷ []) c.loop-number.invariant ∙ sym next)
      | else-mark w ↦
          let next = marked_next marks i false c.loop-number-test.true w.if-mark.false in
          rw w.numbers-is (c.loop-number.invariant ∙ sym (append-nil _) ∙ sym next)
    ]
