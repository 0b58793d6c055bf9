use Rattle.std.proofs.Common.{◌≡◌, ◌∙◌, map, length, get_or, refl, subst, arith}
use Rattle.std.proofs.lemmas.List.{length-map, get_or_default}
use Rattle.chk_book.specs.Views.{end_view}
use Rattle.chk_demux_scan.specs.Forward.{no_span, LeavesSpan}
use Rattle.chk_demux_scan.proofs.Forwards.{not_joined, all_joined}
use Rattle.chk_demux_scan.proofs.forward.join_spans.Goals as goal

pub returns-then-not-join_span-clause-not : goal.returns-then-not-join_span-clause-not
returns-then-not-join_span-clause-not c off rise front seen later are course all =
    let i = c.loop-index.index in
    let some = c.loop-index-test.true in
    let count = length-map c.args.ends.now end_view in
    let begins = c.loop-index.begins.items in
    let same : length begins ≡ length c.args.ends.now = c.loop-index.invariant.same in
    let at : c.index_mut.result.now ≡ get_or c.args.begins.now.items i 0 =
    c.index_mut.ensures.value
    ∙ (get_or_default begins i c.index_mut.result.now 0 (omega (arith, some, same))
    ∙ c.loop-index.invariant.rest i (omega arith)) in
    not_joined (map end_view c.args.ends.now) front seen later c.args.spans.now
    c.args.begins.now.items i (omega (arith, some, count)) are
    (subst (LeavesSpan (get_or c.args.spans.now i no_span)) at (c.if-not-join_span.ensures.no refl))
    course all

pub returns-clause-took : goal.returns-clause-took
returns-clause-took c on rise seen later are course =
    let count = length-map c.args.ends.now end_view in
    let all = c.loop-index-test.false in
    all_joined (map end_view c.args.ends.now) c.args.spans.now c.args.begins.now.items
    c.loop-index.begins.items
    (λ k low. c.loop-index.invariant.joined k (omega (arith, low, count, all))) seen later are
    course
