use Rattle.std.proofs.Common.{arith, ap, sym, subst, ◌∙◌, ◌+◌, take, refl}
use Rattle.std.specs.Prelude.{slice_index_or}
use Rattle.std.proofs.lemmas.List.{take_more_set}
use Rattle.chk_record_index.proofs.Turning.{Numbered, number_more, no_row, with_turn, turn_same}
use Rattle.chk_record_index.proofs.gather.order.take_turns.Goals as goal

pub loop-row-preserved : goal.loop-row-preserved
loop-row-preserved c =
    let rows = c.loop-row.rows in
    let i = c.loop-row.row-index in
    let next = c.loop-row.next in
    let r = with_turn next (slice_index_or rows i no_row) in
    let low = c.loop-row-test.true in
    let long = c.loop-row.auto.rows in (
      turn_same rows i next ∙ c.loop-row.invariant.0,
      ap (λ n. n + 1) c.loop-row.invariant.1,
      subst (Numbered (next + 1)) (sym (take_more_set rows i r (omega (arith, low, long))))
          (number_more next (take i rows) r c.loop-row.invariant.2 refl),
    )
