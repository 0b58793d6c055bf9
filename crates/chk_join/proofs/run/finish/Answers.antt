use Rattle.std.proofs.Common.{subst, sym}
use Rattle.chk_book.specs.Books.{book_view}
use Rattle.chk_archive_parts.specs.Publishing.{ReplacesBookOf}
use Rattle.chk_join.specs.Joined.{joined_folder}
use Rattle.chk_join.specs.Publishing.{IsFinishFault}
use Rattle.chk_join.specs.declared.report.JoinReport.{JoinReport}
use Rattle.chk_join.proofs.Joining.{finished_so, not_finished, worked_ok, worked_err, finish_fault}
use Rattle.chk_join.proofs.Joining.{cause_so}
use Rattle.chk_join.proofs.run.finish.Goals as goal

pub returns-in-Ok-clause-raw : goal.returns-in-Ok-clause-raw
returns-in-Ok-clause-raw g c f settled =
    finished_so f (book_view c.args.book.now) c.args.report (c.in-Ok.ensures.raw f settled)

pub returns-in-Ok-clause-works : goal.returns-in-Ok-clause-works
returns-in-Ok-clause-works g c = worked_ok (ReplacesBookOf joined_folder) tt c.args.report c.in-Ok.ensures.works

pub returns-in-Err-clause-raw : goal.returns-in-Err-clause-raw
returns-in-Err-clause-raw g c f settled =
    not_finished f (book_view c.args.book.now) c.args.report c.in-Err.fault c.from.result c.from.ensures
    (c.in-Err.ensures.raw f settled)

pub returns-in-Err-clause-works : goal.returns-in-Err-clause-works
returns-in-Err-clause-works g c =
    worked_err (Unit {0}) JoinReport (ReplacesBookOf joined_folder) c.in-Err.fault c.from.result c.from.ensures
    c.in-Err.ensures.works

pub returns-in-Err-clause-only : goal.returns-in-Err-clause-only
returns-in-Err-clause-only g c =
    subst IsFinishFault (sym c.from.ensures) (finish_fault c.in-Err.fault c.in-Err.ensures.only)

pub returns-in-Err-clause-cause : goal.returns-in-Err-clause-cause
returns-in-Err-clause-cause g c =
    rw c.from.ensures
    (cause_so (Unit {0}) JoinReport c.in-Err.fault (g.S.Site.fault_count c.args.site.now)
    (g.S.Site.fault_count c.publish.new.site) c.in-Err.ensures.cause)

pub returns-in-Ok-clause-told : goal.returns-in-Ok-clause-told
returns-in-Ok-clause-told g c stamped = c.in-Ok.ensures.told stamped

pub returns-in-Err-clause-told : goal.returns-in-Err-clause-told
returns-in-Err-clause-told g c stamped = c.in-Err.ensures.told stamped
