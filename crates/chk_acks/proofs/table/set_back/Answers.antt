use Rattle.std.proofs.Common.{◌∙◌, ap, sym, set, slice_index, add-one}
use Rattle.chk_acks.specs.Resets.{back_to}
use Rattle.chk_acks.proofs.ResetLemmas.{back_more, back_same}
use Rattle.chk_acks.proofs.table.set_back.Goals as goal
use Rattle.chk_acks.proofs.table.set_back.Goals.{then-is_gone, else-is_gone}

pub loop-adaptor-preserved : goal.loop-adaptor-preserved
loop-adaptor-preserved c =
    let gone = c.args.gone.now in
    let committed = c.args.committed.now in
    let last = c.args.last.now in
    let i = c.loop-adaptor.adaptor in
    let all = c.requires.gone in
    elim c.if-is_gone.branch [
      | then-is_gone w ↦
          w.last-is
          ∙ ap (λ l. set l i (slice_index committed i)) c.loop-adaptor.invariant
          ∙ back_more i gone committed last c.loop-adaptor-test.true c.requires.committed all w.if-is_gone.true
          ∙ ap (λ n. back_to n gone committed last) (sym (add-one i))
      | else-is_gone w ↦
          w.last-is
          ∙ c.loop-adaptor.invariant
          ∙ back_same i gone committed last c.loop-adaptor-test.true c.requires.committed all w.if-is_gone.false
          ∙ ap (λ n. back_to n gone committed last) (sym (add-one i))
    ]
