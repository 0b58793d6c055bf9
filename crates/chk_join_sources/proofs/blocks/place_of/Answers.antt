use Rattle.std.proofs.Common.{ap, sym, ◌∙◌}
use Rattle.chk_chunk.specs.Keys.{stream_lt}
use Rattle.chk_record_index.specs.Heads.{Head}
use Rattle.chk_book.specs.Views.{end_view}
use Rattle.chk_join_sources.proofs.HeadsInOrder.{stands_so, found_first}
use Rattle.chk_join_sources.proofs.blocks.place_of.Goals as goal

pub returns-then-is_place-clause-is : goal.returns-then-is_place-clause-is
returns-then-is_place-clause-is c rise =
    stands_so c.args.heads.now (end_view c.args.end.now).stream c.args.near rise (c.is_place.ensures c.if-is_place.true)

pub returns-then-not-is_head_before-clause-is : goal.returns-then-not-is_head_before-clause-is
returns-then-not-is_head_before-clause-is c rise =
    let s = (end_view c.args.end.now).stream in
    found_first c.args.heads.now s c.loop-i.i rise c.loop-i.invariant
    (λ within. ap (λ (h : Head). stream_lt h.key.stream s) (sym c.get.ensures.head)
    ∙ (sym c.is_head_before.ensures ∙ c.if-not-is_head_before.true))
