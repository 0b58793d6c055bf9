use Rattle.std.proofs.Common.{length, subst}
use Rattle.chk_archive_plan.specs.Passes.{AreSpans}
use Rattle.chk_book.specs.Books.{book_view}
use Rattle.chk_archive.proofs.Planning.{all_end, planned_so}
use Rattle.chk_archive.proofs.taking.plan_of.Goals as goal

pub planned_of-requires : goal.planned_of-requires
planned_of-requires c =
    all_end c.as_slice.result.now c.args.heads.now 0 (length c.args.heads.now) c.in_ok-spans.spans.items
    c.in_ok-spans.ensures

pub returns : goal.returns
returns c =
    let heads = c.args.heads.now in
    let spans = c.in_ok-spans.spans.items in
    planned_so (book_view c.args.book.now) heads c.in_ok-known.known.items c.in_ok-known.ensures.ends spans
    (subst (λ k. AreSpans k heads 0 spans (length heads)) c.as_slice.ensures.value c.in_ok-spans.ensures)
    c.planned_of.result c.planned_of.ensures
