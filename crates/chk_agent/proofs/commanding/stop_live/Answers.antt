use Rattle.std.proofs.Common.{◌≤◌, length, ap, sym, subst, ◌∙◌, arith}
use Rattle.std.specs.Prelude.{slice_set}
use Rattle.chk_rotate.specs.Marks.{BeginsBelow}
use Rattle.chk_agent_adaptor.specs.Adaptors.{is_past, stopped}
use Rattle.chk_agent_table.specs.Adaptors.{Held}
use Rattle.chk_agent.proofs.CommandingLists.{past_to, past_none, past_all, past_size, past_as_was}
use Rattle.chk_agent.proofs.CommandingLists.{one_past, none_past}
use Rattle.chk_agent.proofs.commanding.stop_live.Goals as goal
use Rattle.chk_agent.proofs.commanding.stop_live.Goals.{then-not-is_past, else-not-is_past}

pub loop-place-init : goal.loop-place-init
loop-place-init c = sym (past_none c.args.delivery.now.table.committed 0 c.args.adaptors.now.items)

pub at-requires : goal.at-requires
at-requires c =
    let l = c.loop-place in
    let below = c.loop-place-test.true in
    let len = c.len-place-end.ensures.len in
    let size =
    ap length l.invariant
    ∙ past_size c.args.delivery.now.table.committed 0 l.place c.args.adaptors.now.items in
    omega (arith, below, len, size)

pub stop-requires-clause-there : goal.stop-requires-clause-there
stop-requires-clause-there c =
    let l = c.loop-place in
    let below = c.loop-place-test.true in
    let len = c.len-place-end.ensures.len in
    let size =
    ap length l.invariant
    ∙ past_size c.args.delivery.now.table.committed 0 l.place c.args.adaptors.now.items in
    omega (arith, below, len, size)

pub stop-requires-clause-from : goal.stop-requires-clause-from
stop-requires-clause-from c a at =
    let l = c.loop-place in
    subst (λ o. BeginsBelow o a.marks) (sym c.committed_end-committed.ensures)
    (c.requires.from l.place a
    (past_as_was c.args.delivery.now.table.committed c.args.adaptors.now.items l.adaptors.items
    l.place l.invariant ∙ at))

pub stop-requires-clause-to : goal.stop-requires-clause-to
stop-requires-clause-to c a at =
    let l = c.loop-place in
    subst (λ o. o ≤ a.read.offset) (sym c.committed_end-committed.ensures)
    (c.requires.to l.place a
    (past_as_was c.args.delivery.now.table.committed c.args.adaptors.now.items l.adaptors.items
    l.place l.invariant ∙ at))

pub loop-place-preserved : goal.loop-place-preserved
loop-place-preserved c =
    let l = c.loop-place in
    let ends = c.args.delivery.now.table.committed in
    let xs = c.args.adaptors.now.items in
    let a = c.at.result.now in
    elim c.if-not-is_past.branch [
      | then-not-is_past w ↦
          ap (λ (h : Held). h.items) w.adaptors-is
          ∙ (ap (λ (h : Held). h.items) (w.stop.ensures a c.at.ensures)
          ∙ (ap (λ o. slice_set l.adaptors.items l.place (stopped o a))
          w.committed_end-committed.ensures
          ∙ one_past ends xs l.adaptors.items l.place l.invariant a c.at.ensures
          (c.is_past.ensures ∙ ap is_past c.phase.ensures.phase) w.if-not-is_past.true))
      | else-not-is_past w ↦
          ap (λ (h : Held). h.items) w.adaptors-is
          ∙ none_past ends xs l.adaptors.items l.place l.invariant a c.at.ensures
          (c.is_past.ensures ∙ ap is_past c.phase.ensures.phase) w.if-not-is_past.false
    ]

pub returns : goal.returns
returns c =
    let l = c.loop-place in
    l.invariant
    ∙ (ap (λ n. past_to c.args.delivery.now.table.committed 0 n c.args.adaptors.now.items)
    (let last = c.loop-place-test.false in let end = l.auto.place-end in omega (arith, last, end))
    ∙ past_all c.args.delivery.now.table.committed c.args.adaptors.now.items)
