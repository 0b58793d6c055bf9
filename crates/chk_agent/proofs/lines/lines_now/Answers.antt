use Rattle.std.proofs.Common.{map, ap, sym, ◌∙◌, ◌≡◌, arith}
use Rattle.std.specs.Prelude.{slice_get, Some}
use Rattle.std.proofs.lemmas.Option.{slice_get-get_or}
use Rattle.chk_checkpoint.specs.Lines.{shown}
use Rattle.chk_agent_adaptor.specs.Adaptors.{line_at}
use Rattle.chk_agent.specs.States.{lines_at}
use Rattle.chk_agent.proofs.Listing.{lines_next, pushed, take_over}
use Rattle.chk_agent.proofs.Soundness.{size_lines}
use Rattle.chk_agent.proofs.lines.lines_now.Goals as goal

pub loop-i-preserved : goal.loop-i-preserved
loop-i-preserved c =
    let a = c.index-adaptors-i.result in
    let adaptors = c.args.adaptors.now in
    let ends = c.args.delivery.now.table.committed in
    let here : slice_get adaptors c.loop-i.i ≡ Some a =
    slice_get-get_or adaptors c.loop-i.i a c.loop-i-test.true ∙ ap Some (sym c.index-adaptors-i.is) in
    pushed c.loop-i.lines.items c.push.new.self.items c.in_ok-line.field-0 c.in_ok-push.ensures.items
    ∙ lines_next adaptors ends c.loop-i.i a (map shown c.loop-i.lines.items) (shown c.in_ok-line.field-0) here c.loop-i.invariant
    (c.in_ok-line.ensures ∙ ap (λ o. line_at o a) c.committed_end-committed.ensures)

pub returns : goal.returns
returns c =
    let adaptors = c.args.adaptors.now in
    let ends = c.args.delivery.now.table.committed in
    c.loop-i.invariant ∙ take_over c.loop-i.i (lines_at adaptors ends)
    (let size = size_lines adaptors ends in let over = c.loop-i-test.false in omega (arith, size, over))
