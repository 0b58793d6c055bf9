use Rattle.std.proofs.Common.{◌∙◌, ap, length, arith}
use Rattle.std.specs.Prelude.{slice_set}
use Rattle.chk_agent_adaptor.specs.Adaptors.{settled_one}
use Rattle.chk_agent_table.specs.Adaptors.{Held}
use Rattle.chk_agent.proofs.TableFound.{there_at}
use Rattle.chk_agent.proofs.SettlingLines.{settled_next, all_up, size_up}
use Rattle.chk_agent.proofs.settling.settle_all.Goals as goal

pub settle-requires : goal.settle-requires
settle-requires c =
    let n = c.loop-place.place in
    let ends = c.args.delivery.now.table.committed in
    let below = c.loop-place-test.true in
    let len = c.len-place-end.ensures.len in
    let size = ap length c.loop-place.invariant ∙ size_up n c.args.adaptors.now.items ends in
    omega (arith, below, len, size)

pub loop-place-preserved : goal.loop-place-preserved
loop-place-preserved c =
    let n = c.loop-place.place in
    let ends = c.args.delivery.now.table.committed in
    let xs = c.loop-place.adaptors.items in
    let below = c.loop-place-test.true in
    let known = c.requires.known in
    let len = c.len-place-end.ensures.len in
    let size = ap length c.loop-place.invariant ∙ size_up n c.args.adaptors.now.items ends in
    let t = there_at xs n (omega (arith, below, len, size)) in
    ap (λ (h : Held). h.items) (c.settle.ensures t.0 t.1)
    ∙ (ap (λ o. slice_set xs n (settled_one o t.0)) c.committed_end-committed.ensures
    ∙ settled_next xs n c.args.adaptors.now.items ends t.0 c.loop-place.invariant
    (omega (arith, below, len, known)) t.1)

pub returns : goal.returns
returns c =
    let past = c.loop-place-test.false in
    let len = c.len-place-end.ensures.len in
    c.loop-place.invariant
    ∙ all_up c.loop-place.place c.args.adaptors.now.items c.args.delivery.now.table.committed
    (omega (arith, past, len))
