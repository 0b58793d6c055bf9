use Rattle.std.proofs.Common.{◌∙◌, Ok, length, ap}
use Rattle.std.proofs.lemmas.Result.{err_from_is_err_and}
use Rattle.chk_site.proofs.Leads.{leads_as, leads_then}
use Rattle.chk_world.specs.JobSteps.{ReadsFile}
use Rattle.chk_book.proofs.Added.{cause_then}
use Rattle.chk_book.proofs.Segmented.{unsaid as led_anyhow}
use Rattle.chk_archive_merge.proofs.Works.{works_value}
use Rattle.chk_book.proofs.Works.{works_then}
use Rattle.chk_archive_merge.proofs.Wholes.{opened_has}
use Rattle.chk_archive_merge.proofs.merging.are_in_order.Goals as goal

pub returns-in_err-open_all-clause-raw : goal.returns-in_err-open_all-clause-raw
returns-in_err-open_all-clause-raw g c held settled =
    let p = err_from_is_err_and c.from_residual.result c.from_residual.ensures.1 in
    rw (p.1, p.2) (led_anyhow (λ h. tt) c.in_err-open_all.ensures.works)

pub returns-in_err-open_all-clause-works : goal.returns-in_err-open_all-clause-works
returns-in_err-open_all-clause-works g c =
    let p = err_from_is_err_and c.from_residual.result c.from_residual.ensures.1 in
    rw (p.1, p.2) c.in_err-open_all.ensures.works

pub returns-in_err-open_all-clause-only : goal.returns-in_err-open_all-clause-only
returns-in_err-open_all-clause-only g c =
    let p = err_from_is_err_and c.from_residual.result c.from_residual.ensures.1 in
    rw (p.1, p.2) c.in_err-open_all.ensures.only

pub returns-in_err-open_all-clause-cause : goal.returns-in_err-open_all-clause-cause
returns-in_err-open_all-clause-cause g c =
    let p = err_from_is_err_and c.from_residual.result c.from_residual.ensures.1 in
    rw (p.1, p.2) c.in_err-open_all.ensures.cause

pub returns-then-not-branch-clause-raw : goal.returns-then-not-branch-clause-raw
returns-then-not-branch-clause-raw g c held settled =
    leads_as (λ h x. x) (λ h x. opened_has c.args.most c.args.names.now held c.open_all.new.cursors.items c.in_ok-open_all.field-0 h x)
    (c.in_ok-open_all.ensures.raw held settled)

pub returns-then-not-branch-clause-works : goal.returns-then-not-branch-clause-works
returns-then-not-branch-clause-works g c = works_value ReadsFile c.in_ok-open_all.field-0 _ c.in_ok-open_all.ensures.works

pub returns-then-not-branch-clause-cause : goal.returns-then-not-branch-clause-cause
returns-then-not-branch-clause-cause g c = c.in_ok-open_all.ensures.cause

pub returns-clause-raw : goal.returns-clause-raw
returns-clause-raw g c held settled =
    leads_then
    (leads_as (λ h x. x) (λ h x. opened_has c.args.most c.args.names.now held c.open_all.new.cursors.items c.in_ok-open_all.field-0 h x)
    (c.in_ok-open_all.ensures.raw held settled))
    (c.pass_all.ensures.raw held settled)

pub returns-clause-works : goal.returns-clause-works
returns-clause-works g c =
    works_then ReadsFile (Ok c.in_ok-open_all.field-0) c.pass_all.result c.in_ok-open_all.ensures.works c.pass_all.ensures.works

pub returns-clause-cause : goal.returns-clause-cause
returns-clause-cause g c =
    cause_then c.pass_all.result (g.S.Site.fault_count c.args.site.now) (g.S.Site.fault_count c.open_all.new.site)
    (g.S.Site.fault_count c.pass_all.new.site) c.in_ok-open_all.ensures.cause c.pass_all.ensures.cause

pub pass_all-requires-clause-count : goal.pass_all-requires-clause-count
pass_all-requires-clause-count g c = ap length c.deref_mut.ensures.value ∙ c.in_ok-open_all.ensures.count c.if-not-branch.false
