use Rattle.std.proofs.Common.{map, arith}
use Rattle.std.specs.Prelude.{option_map}
use Rattle.chk_book.specs.Views.{segment_view, end_view}
use Rattle.chk_book.proofs.WholeBook.{book_so}
use Rattle.chk_book.proofs.reading.read_book.Goals as goal

pub read_segments-requires-clause-bytes : goal.read_segments-requires-clause-bytes
read_segments-requires-clause-bytes c = c.in_ok-count.ensures.count.2

pub read_segments-requires-clause-next : goal.read_segments-requires-clause-next
read_segments-requires-clause-next c = c.in_ok-next.ensures.next.2

pub read_ends-requires : goal.read_ends-requires
read_ends-requires c = c.in_ok-count-2.ensures.count.2

pub tail_at-requires-clause-next : goal.tail_at-requires-clause-next
tail_at-requires-clause-next c = c.in_ok-next.ensures.next.2

pub returns-clause-book : goal.returns-clause-book
returns-clause-book c =
    let bytes = c.args.bytes.now in
    let version = c.in_ok-version.ensures.head in
    let next = c.in_ok-next.ensures.next in
    let count = c.in_ok-count.ensures.count in
    let more = c.in_ok-count-2.ensures.count in
    book_so bytes (λ i. omega (arith, c.type_inv.bytes i)) c.in_ok-version.version c.in_ok-next.next c.in_ok-count.count c.in_ok-count-2.count version.1 next.1 count.1 more.1
    count.3 more.3 version.0 next.0 next.3 count.0 count.2 (map segment_view c.in_ok-segments.segments) c.in_ok-segments.ensures.segments more.0 more.2
    (map end_view c.in_ok-ends.ends) c.in_ok-ends.at c.in_ok-ends.ensures.ends (option_map segment_view c.in_ok-aside.aside) (rw c.as_slice.ensures at c.in_ok-aside.ensures.tail)
