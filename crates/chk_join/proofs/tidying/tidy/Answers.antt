use Rattle.chk_join.proofs.Chain.{untold}
use Rattle.chk_replace.specs.Replace.{LeavesFile}
use Rattle.chk_site.specs.Runs.{anyhow, Leads}
use Rattle.chk_site.specs.Site.{Adds}
use Rattle.chk_join.proofs.StraysGone.{pending_from}
use Rattle.chk_join.specs.Cleaned.{Pending, GoneAtOk}
use Rattle.chk_book.specs.Folders.{segment_stem}
use Rattle.chk_join_sources.specs.Copying.{joined_segment}
use Rattle.chk_site.proofs.Leads.{leads_as, leads_then}
use Rattle.std.specs.Prelude.{Contains}
use Rattle.std.proofs.Common.{Ok, sym, subst}
use Rattle.std.proofs.lemmas.Result.{err_from_is_err_and}
use Rattle.chk_record_index.specs.Faults.{job_fault}
use Rattle.chk_world.proofs.Each.{Each}
use Rattle.chk_book.specs.Books.{book_view}
use Rattle.chk_join.specs.Names.{IsStray}
use Rattle.chk_join.specs.Working.{TidiesBy, job_result}
use Rattle.chk_archive_parts.proofs.Works.{works_end, works_fail}
use Rattle.chk_book.proofs.Works.{works_then}
use Rattle.chk_join.proofs.tidying.tidy.Goals as goal

pub returns-in_err-names-clause-works : goal.returns-in_err-names-clause-works
returns-in_err-names-clause-works g c =
    let p = err_from_is_err_and c.from_residual.result c.from_residual.ensures.1 in
    rw (p.1, p.2)
    (works_fail _ (Unit {0}) (TidiesBy (book_view c.args.book.now)) (job_fault c.in_err-names.field-0.0)
    (c.in_err-names.ensures.works (book_view c.args.book.now)))

pub returns-in_err-strays-clause-works : goal.returns-in_err-strays-clause-works
returns-in_err-strays-clause-works g c =
    let p = err_from_is_err_and c.from_residual-in_err-strays.result c.from_residual-in_err-strays.ensures.1 in
    rw (p.1, p.2)
    (works_end _ (Unit {0}) (TidiesBy (book_view c.args.book.now)) c.in_ok-names.names
    (c.in_ok-names.ensures.works (book_view c.args.book.now)))

pub returns-clause-works : goal.returns-clause-works
returns-clause-works g c =
    let b = book_view c.args.book.now in
    works_then (TidiesBy b) (Ok c.in_ok-names.names) (job_result c.remove_all.result)
    (c.in_ok-names.ensures.works b)
    (c.remove_all.ensures.works b
    (subst (Each (IsStray b)) (sym c.as_slice-2.ensures.value) c.in_ok-strays.ensures.each))

pub returns-in_err-names-clause-clean : goal.returns-in_err-names-clause-clean
returns-in_err-names-clause-clean g c k stray =
    let p = err_from_is_err_and c.from_residual.result c.from_residual.ensures.1 in
    rw (p.1, p.2)
    (untold (LeavesFile (joined_segment k)) (c.in_err-names.ensures.works (book_view c.args.book.now)) (λ h. tt))

pub returns-in_err-strays-clause-clean : goal.returns-in_err-strays-clause-clean
returns-in_err-strays-clause-clean g c k stray =
    let p = err_from_is_err_and c.from_residual-in_err-strays.result c.from_residual-in_err-strays.ensures.1 in
    rw (p.1, p.2)
    (untold (LeavesFile (joined_segment k)) (c.in_ok-names.ensures.works (book_view c.args.book.now)) (λ h. tt))

pub returns-clause-clean : goal.returns-clause-clean
returns-clause-clean g c k stray =
    leads_then (c.in_ok-names.ensures.shown k stray.0)
    (leads_as
    (λ h shown. pending_from k c.in_ok-names.names.items c.in_ok-strays.strays.items
    (λ one. c.in_ok-strays.ensures.all k stray (subst (λ l. Contains l (segment_stem k)) (sym c.as_slice.ensures.value) one))
    h shown)
    (λ h x. x)
    (subst (λ l. Adds (g.S.Site.told c.list_joined.new.site) (g.S.Site.told c.remove_all.new.site)
    (Leads (anyhow (LeavesFile (joined_segment k))) (Pending k l) (GoneAtOk k c.remove_all.result)))
    c.as_slice-2.ensures.value (c.remove_all.ensures.gone k stray.0)))
