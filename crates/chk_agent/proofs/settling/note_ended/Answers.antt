use Rattle.std.proofs.Common.{not, ◌∙◌, ap, arith}
use Rattle.std.specs.Prelude.{slice_index_or}
use Rattle.std.proofs.lemmas.Option.{slice_get-get_or}
use Rattle.chk_agent_adaptor.specs.Adaptors.{is_past, phase_at}
use Rattle.chk_agent.specs.States.{lines_at}
use Rattle.chk_agent.proofs.SettlingLines.{noted_next, lines_many, all_up}
use Rattle.chk_agent.proofs.settling.note_ended.Goals as goal

pub bounds-lines-place : goal.bounds-lines-place
bounds-lines-place c =
    let many = lines_many c.loop-place.lines c.loop-place.place c.args.adaptors.now c.args.delivery.now.table.committed c.loop-place.invariant in
    let below = c.loop-place-test.true in omega (arith, many, below)

pub bounds-lines-place-in-loop-place : goal.bounds-lines-place-in-loop-place
bounds-lines-place-in-loop-place c =
    let many = lines_many c.loop-place.lines c.loop-place.place c.args.adaptors.now c.args.delivery.now.table.committed c.loop-place.invariant in
    let below = c.loop-place-test.true in omega (arith, many, below)

pub loop-place-preserved : goal.loop-place-preserved
loop-place-preserved c =
    let n = c.loop-place.place in
    let xs = c.args.adaptors.now in
    let ends = c.args.delivery.now.table.committed in
    let many = lines_many c.loop-place.lines n xs ends c.loop-place.invariant in
    let below = c.loop-place-test.true in
    let known = c.requires.known in
    let h = c.stays_live.ensures in
    noted_next c.loop-place.lines n xs ends (slice_index_or c.loop-place.lines n c.index-lines-place.result)
    (slice_index_or xs n c.index-adaptors-place.result) c.stays_live.result c.loop-place.invariant known (omega (arith, below, known))
    (slice_get-get_or c.loop-place.lines n c.index-lines-place.result (omega (arith, many, below)))
    (slice_get-get_or xs n c.index-adaptors-place.result below)
    (h ∙ (λ i. not (is_past (phase_at (c.committed_end-committed.ensures i) (c.index-adaptors-place.is i).phase))))

pub returns : goal.returns
returns c =
    c.loop-place.invariant
    ∙ ap (λ ys. lines_at ys c.args.delivery.now.table.committed)
    (all_up c.loop-place.place c.args.adaptors.now c.args.delivery.now.table.committed c.loop-place-test.false)
