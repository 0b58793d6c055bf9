use Rattle.std.proofs.Common.{Bool, map, Option, Ok, Err, refl, ap, subst}
use Rattle.std.proofs.lemmas.Result.{err_from_is_err_and}
use Rattle.chk_site.proofs.Leads.{leads_as, leads_none, leads_then}
use Rattle.chk_world.specs.JobSteps.{ReadsOrWrites}
use Rattle.chk_book.proofs.Added.{cause_later, cause_then, spent_write, write_begins}
use Rattle.chk_book.specs.declared.book.Book.{Book as Struct}
use Rattle.chk_book.specs.Books.{book_view}
use Rattle.chk_book.specs.Folders.{segment_name}
use Rattle.chk_book.specs.Views.{end_view}
use Rattle.chk_record_reader.specs.Segments.{HasFiles}
use Rattle.chk_book.proofs.Segmented.{unsaid as led_anyhow}
use Rattle.chk_archive_merge.proofs.Wholes.{spared_more, tried_as, spent_bare}
use Rattle.chk_archive_merge.proofs.Works.{works_value, works_fault, works_read}
use Rattle.chk_book.proofs.Works.{works_none, works_then}
use Rattle.chk_archive_merge.proofs.merging.merge_by_cursors.Goals as goal

pub returns-in_err-are_in_order-clause-raw : goal.returns-in_err-are_in_order-clause-raw
returns-in_err-are_in_order-clause-raw g c held settled apart =
    let p = err_from_is_err_and c.from_residual.result c.from_residual.ensures.1 in
    rw (p.1, p.2) (led_anyhow (λ h. tt) c.in_err-are_in_order.ensures.works)

pub returns-in_err-are_in_order-clause-works : goal.returns-in_err-are_in_order-clause-works
returns-in_err-are_in_order-clause-works g c =
    let p = err_from_is_err_and c.from_residual.result c.from_residual.ensures.1 in
    let segment = segment_name c.args.folder.now c.args.book.now.next in
    rw (p.1, p.2)
    (works_fault {T = Bool} {U = Option Struct} (ReadsOrWrites segment) c.in_err-are_in_order.field-0.0
    (works_read {T = Bool} segment (Err c.in_err-are_in_order.field-0.0) c.in_err-are_in_order.ensures.works))

pub returns-in_err-are_in_order-clause-spent : goal.returns-in_err-are_in_order-clause-spent
returns-in_err-are_in_order-clause-spent g c =
    let p = err_from_is_err_and c.from_residual.result c.from_residual.ensures.1 in
    rw (p.1, p.2) (spent_write (Unit {0}) (book_view c.args.book.now) c.in_err-are_in_order.field-0.0 c.in_err-are_in_order.ensures.only c.requires.next)

pub returns-in_err-are_in_order-clause-only : goal.returns-in_err-are_in_order-clause-only
returns-in_err-are_in_order-clause-only g c =
    let p = err_from_is_err_and c.from_residual.result c.from_residual.ensures.1 in
    rw (p.1, p.2) (write_begins c.in_err-are_in_order.field-0.0 c.in_err-are_in_order.ensures.only)

pub returns-in_err-are_in_order-clause-cause : goal.returns-in_err-are_in_order-clause-cause
returns-in_err-are_in_order-clause-cause g c =
    let p = err_from_is_err_and c.from_residual.result c.from_residual.ensures.1 in
    rw (p.1, p.2)
    (cause_later (Option Struct) Bool c.in_err-are_in_order.field-0.0 (g.S.Site.fault_count c.args.site.now) (g.S.Site.fault_count c.args.site.now)
    (g.S.Site.fault_count c.are_in_order.new.site) refl c.in_err-are_in_order.ensures.cause)

pub returns-then-not-are_rising-clause-raw : goal.returns-then-not-are_rising-clause-raw
returns-then-not-are_rising-clause-raw g c held settled apart =
    leads_none _ (λ h x. subst (λ ws. HasFiles ws held h) c.requires.names x)

pub returns-then-not-are_rising-clause-works : goal.returns-then-not-are_rising-clause-works
returns-then-not-are_rising-clause-works g c = works_none (ReadsOrWrites (segment_name c.args.folder.now c.args.book.now.next)) _ _

pub returns-then-not-branch-clause-raw : goal.returns-then-not-branch-clause-raw
returns-then-not-branch-clause-raw g c held settled apart =
    spared_more c.args.names.now (segment_name c.args.folder.now c.args.book.now.next)
    (leads_as (λ h x. x) (λ h x. subst (λ ws. HasFiles ws held h) c.requires.names x) (c.in_ok-are_in_order.ensures.raw held settled))

pub returns-then-not-branch-clause-works : goal.returns-then-not-branch-clause-works
returns-then-not-branch-clause-works g c =
    let segment = segment_name c.args.folder.now c.args.book.now.next in
    works_value (ReadsOrWrites segment) c.in_ok-are_in_order.field-0 _
    (works_read segment (Ok c.in_ok-are_in_order.field-0) c.in_ok-are_in_order.ensures.works)

pub returns-then-not-branch-clause-cause : goal.returns-then-not-branch-clause-cause
returns-then-not-branch-clause-cause g c = c.in_ok-are_in_order.ensures.cause

pub returns-clause-raw : goal.returns-clause-raw
returns-clause-raw g c held settled apart =
    let folder = c.args.folder.now in
    let b = book_view c.args.book.now in
    let names = c.args.names.now in
    let es = map end_view c.as_slice-ends.result.now in
    leads_as (λ h x. x)
    (λ h x. tried_as folder b held names es c.requires.names (ap (map end_view) c.as_slice-ends.ensures) c.write_in_order.result h x)
    (leads_then (spared_more names (segment_name folder b.next) (c.in_ok-are_in_order.ensures.raw held settled))
    (c.write_in_order.ensures.raw held settled apart (c.are_rising.ensures c.if-not-are_rising.false)))

pub returns-clause-works : goal.returns-clause-works
returns-clause-works g c =
    let segment = segment_name c.args.folder.now c.args.book.now.next in
    works_then (ReadsOrWrites segment) (Ok c.in_ok-are_in_order.field-0) c.write_in_order.result
    (works_read segment (Ok c.in_ok-are_in_order.field-0) c.in_ok-are_in_order.ensures.works) c.write_in_order.ensures.works

pub returns-clause-spent : goal.returns-clause-spent
returns-clause-spent g c = spent_bare (book_view c.args.book.now) c.write_in_order.result c.write_in_order.ensures.spent

pub returns-clause-cause : goal.returns-clause-cause
returns-clause-cause g c =
    cause_then c.write_in_order.result (g.S.Site.fault_count c.args.site.now) (g.S.Site.fault_count c.are_in_order.new.site)
    (g.S.Site.fault_count c.write_in_order.new.site) c.in_ok-are_in_order.ensures.cause c.write_in_order.ensures.cause
