use Rattle.std.proofs.Common.{◌≤◌, ◌<◌, length, take, arith, sym, subst, ◌∙◌, ap}
use Rattle.std.specs.Prelude.{slice_index, slice_set}
use Rattle.chk_rotate.specs.Marks.{BeginsBelow}
use Rattle.chk_agent_adaptor.specs.Adaptors.{sent_back}
use Rattle.chk_agent_table.specs.Adaptors.{Held}
use Rattle.chk_agent.proofs.TableFound.{there_at}
use Rattle.chk_agent.proofs.SettlingBack.{none_back, back_size, before_back, went_back, none_there}
use Rattle.chk_agent.proofs.settling.send_back.Goals as goal
use Rattle.chk_agent.proofs.settling.send_back.Goals.{then-adaptor-len, else-adaptor-len}

pub loop-place-init : goal.loop-place-init
loop-place-init c = sym (none_back c.args.delivery.now.table.committed 0 c.args.adaptors.now.items)

pub back-requires-clause-from : goal.back-requires-clause-from
back-requires-clause-from c a at =
    let x = slice_index c.args.gone.now c.loop-place.place in
    subst (λ o. BeginsBelow o a.marks) (sym c.committed_end-committed.ensures)
    (c.requires.from x a
    (before_back c.args.gone.now c.args.delivery.now.table.committed c.requires.rising
    c.args.adaptors.now.items c.loop-place.adaptors.items c.loop-place.place
    c.loop-place-test.true c.loop-place.invariant a at))

pub back-requires-clause-to : goal.back-requires-clause-to
back-requires-clause-to c a at =
    let x = slice_index c.args.gone.now c.loop-place.place in
    subst (λ o. o ≤ a.read.offset) (sym c.committed_end-committed.ensures)
    (c.requires.to x a
    (before_back c.args.gone.now c.args.delivery.now.table.committed c.requires.rising
    c.args.adaptors.now.items c.loop-place.adaptors.items c.loop-place.place
    c.loop-place-test.true c.loop-place.invariant a at))

pub committed_end-committed-requires : goal.committed_end-committed-requires
committed_end-committed-requires c =
    let xs = c.args.adaptors.now.items in
    let gone = take c.loop-place.place c.args.gone.now in
    let size =
    ap length c.loop-place.invariant ∙ back_size gone c.args.delivery.now.table.committed 0 xs in
    let len = c.len.ensures.len in
    let below = c.if-adaptor-len.true in
    let known = c.requires.known in
    omega (arith, below, len, size, known)

pub loop-place-preserved : goal.loop-place-preserved
loop-place-preserved c =
    let x = slice_index c.args.gone.now c.loop-place.place in
    let xs = c.loop-place.adaptors.items in
    elim c.if-adaptor-len.branch [
      | then-adaptor-len w ↦
          let t = there_at xs x (subst (λ n. x < n) c.len.ensures.len w.if-adaptor-len.true) in
          ap (λ (h : Held). h.items) w.adaptors-is
          ∙ (ap (λ (h : Held). h.items) (w.back.ensures t.0 t.1)
          ∙ (ap (λ o. slice_set xs x (sent_back o t.0)) w.committed_end-committed.ensures
          ∙ went_back c.args.gone.now c.args.delivery.now.table.committed c.requires.rising
          c.args.adaptors.now.items xs
          c.loop-place.place c.loop-place-test.true c.loop-place.invariant t.0 t.1))
      | else-adaptor-len w ↦
          ap (λ (h : Held). h.items) w.adaptors-is
          ∙ none_there c.args.gone.now c.args.delivery.now.table.committed c.requires.rising
          c.args.adaptors.now.items xs
          c.loop-place.place c.loop-place-test.true c.loop-place.invariant
          (subst (λ n. n ≤ x) c.len.ensures.len w.if-adaptor-len.false)
    ]
