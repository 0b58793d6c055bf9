use Rattle.std.proofs.Common.{◌∙◌, ◌-◌, ap, sym, drop, length, map, arith}
use Rattle.std.proofs.lemmas.List.{drop-map, length-drop, take_all}
use Rattle.chk_book.specs.Views.{segment_view}
use Rattle.chk_ctl_streams.proofs.newest.without_oldest.Goals as goal

pub returns-clause-segments : goal.returns-clause-segments
returns-clause-segments c =
    let oldest = c.args.oldest in
    let gs = c.as_slice.result.now in
    let size = length-drop oldest gs in
    let all = take_all (length gs - oldest) (drop oldest gs) (omega (arith, size)) in
    ap (map segment_view) (c.in_ok-book.ensures ∙ all ∙ ap (drop oldest) c.as_slice.ensures)
    ∙ sym (drop-map segment_view oldest c.args.book.segments)
