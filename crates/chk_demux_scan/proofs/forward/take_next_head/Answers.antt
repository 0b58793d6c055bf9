use Rattle.std.proofs.Common.{◌∙◌, map, sym}
use Rattle.chk_record_index.specs.Order.{lent_head}
use Rattle.chk_book.specs.Views.{end_view}
use Rattle.chk_demux_scan.proofs.Forwards.{broken_unlisted, broken_at, spans_more}
use Rattle.chk_demux_scan.proofs.forward.take_next_head.Goals as goal

pub returns-in_default-clause-none : goal.returns-in_default-clause-none
returns-in_default-clause-none c rise seen are =
    broken_unlisted (map end_view c.args.ends.now) seen (lent_head c.args.head.now)
    (c.in_default.ensures.none rise)

pub returns-then-not-follows-clause-none : goal.returns-then-not-follows-clause-none
returns-then-not-follows-clause-none c rise seen are =
    broken_at c.args.ends.now c.args.spans.now.items (lent_head c.args.head.now) c.in-Some.place
    c.index-ends-place.result c.index.result.now c.in-Some.ensures.within c.requires.same
    c.index-ends-place.is c.index.ensures c.in-Some.ensures.found
    (sym c.follows.ensures ∙ c.if-not-follows.true) seen are

pub returns-clause-took : goal.returns-clause-took
returns-clause-took c rise seen are =
    spans_more c.args.ends.now c.args.spans.now.items (lent_head c.args.head.now) c.in-Some.place
    c.index-ends-place.result c.index.result.now c.in-Some.ensures.within c.requires.same
    c.index-ends-place.is c.index.ensures c.in-Some.ensures.found rise
    (sym c.follows.ensures ∙ c.if-not-follows.false) c.requires.some c.next_span.result
    c.next_span.ensures seen are
