use Rattle.std.proofs.Common.{Some, map, sym, subst, arith}
use Rattle.chk_world.specs.Books.{Segment}
use Rattle.chk_book.specs.Views.{segment_view}
use Rattle.chk_book.specs.Found.{IsTailAt}
use Rattle.chk_book.proofs.FieldFacts.{segment_there, no_aside, some_aside}
use Rattle.chk_book.proofs.reading.tail_at.Goals as goal

pub returns-then-not-aside-clause-tail : goal.returns-then-not-aside-clause-tail
returns-then-not-aside-clause-tail c =
    no_aside c.args.aside c.args.next (map segment_view c.args.segments.now) c.args.at c.args.bytes.now c.if-not-aside.true c.in_ok-end_of.ensures.fine

pub returns-clause-tail : goal.returns-clause-tail
returns-clause-tail c =
    let found = c.in_ok-segment.ensures.segment in
    let is : Path Segment (segment_view c.in_ok-segment.segment) (segment_there c.args.at c.args.bytes.now) =
    λ i. record { number = (found.1) i; length = (found.2) i } in
    subst (λ g. IsTailAt c.args.aside c.args.next (map segment_view c.args.segments.now) c.args.at c.args.bytes.now (Some g)) (sym is)
    (some_aside c.args.aside c.args.next (map segment_view c.args.segments.now) c.args.at c.args.bytes.now (λ i. omega (arith, c.type_inv.bytes i))
    c.requires.next c.if-not-aside.false found.3 found.0 c.in_ok-end_of-2.ensures.fine)
