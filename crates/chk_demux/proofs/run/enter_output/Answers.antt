use Rattle.std.proofs.Common.{refl, subst}
use Rattle.std.proofs.lemmas.Result.{err_from_is_err_and}
use Rattle.chk_site.specs.Site.{Adds}
use Rattle.chk_world.specs.Sight.{AtJob}
use Rattle.chk_book.specs.Books.{book_view}
use Rattle.chk_demux.specs.Demuxed.{WritesBook}
use Rattle.chk_demux.specs.Entering.{Entered}
use Rattle.chk_demux.specs.Working.{Worked}
use Rattle.chk_demux.specs.Writes.{SoFar}
use Rattle.chk_demux.specs.declared.report.DemuxReport.{DemuxReport}
use Rattle.chk_demux.proofs.Ends.{cause_behind, so_fails, so_done}
use Rattle.chk_archive_parts.proofs.Works.{works_result, works_value}
use Rattle.chk_demux.proofs.run.enter_output.Goals as goal

pub returns-in_err-enter-clause-told : goal.returns-in_err-enter-clause-told
returns-in_err-enter-clause-told g c stamped v outs free may =
    let q = err_from_is_err_and c.from_residual.result c.from_residual.ensures.1 in
    let b = book_view c.args.book.now in
    let s = c.args.output.segmenter in
    rw (q.1, q.2)
    (so_fails {T = Unit {0}} {U = DemuxReport} stamped (AtJob stamped (SoFar v outs s))
    (λ t u. Entered v b outs s u) (λ t u. Entered v b outs s u) c.enter.result c.in_err-enter.field-0.0 c.in_err-enter.was
    (c.enter.ensures.told stamped v outs free may))

pub returns-in_err-enter-clause-counts : goal.returns-in_err-enter-clause-counts
returns-in_err-enter-clause-counts g c =
    let q = err_from_is_err_and c.from_residual.result c.from_residual.ensures.1 in
    rw q.1 tt

pub returns-in_err-enter-clause-works : goal.returns-in_err-enter-clause-works
returns-in_err-enter-clause-works g c =
    let q = err_from_is_err_and c.from_residual.result c.from_residual.ensures.1 in
    rw (q.1, q.2)
    (works_result DemuxReport (WritesBook (book_view c.args.book.now).next) c.enter.result
    c.in_err-enter.field-0.0 c.in_err-enter.was c.enter.ensures.works)

pub returns-in_err-enter-clause-cause : goal.returns-in_err-enter-clause-cause
returns-in_err-enter-clause-cause g c =
    let q = err_from_is_err_and c.from_residual.result c.from_residual.ensures.1 in
    let old = g.S.Site.fault_count c.args.site.now in
    rw (q.1, q.2)
    (cause_behind DemuxReport c.enter.result c.in_err-enter.field-0.0 c.in_err-enter.was old old
    (g.S.Site.fault_count c.enter.new.site) refl c.enter.ensures.cause)

pub returns-clause-told : goal.returns-clause-told
returns-clause-told g c stamped v outs free may =
    let b = book_view c.args.book.now in
    let s = c.args.output.segmenter in
    so_done {T = Unit {0}} stamped (AtJob stamped (SoFar v outs s)) (λ t u. Entered v b outs s u)
    c.enter.result tt c.in_ok-enter.was (c.enter.ensures.told stamped v outs free may)

pub returns-clause-counts : goal.returns-clause-counts
returns-clause-counts g c = (refl, refl, refl)

pub returns-clause-works : goal.returns-clause-works
returns-clause-works g c =
    let K = WritesBook (book_view c.args.book.now).next in
    works_value (Unit {0}) DemuxReport K tt _
    (subst (λ r. Adds (g.S.Site.told c.args.site.now) (g.S.Site.told c.enter.new.site) (Worked K r))
    c.in_ok-enter.was c.enter.ensures.works)

pub returns-clause-cause : goal.returns-clause-cause
returns-clause-cause g c = c.in_ok-enter.ensures.cause

pub returns-in_err-enter-clause-only : goal.returns-in_err-enter-clause-only
returns-in_err-enter-clause-only g c =
    let q = err_from_is_err_and c.from_residual.result c.from_residual.ensures.1 in
    rw (q.1, q.2) c.in_err-enter.ensures.only
