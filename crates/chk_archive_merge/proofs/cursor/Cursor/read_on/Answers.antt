use Rattle.std.proofs.Common.{Bool, Option, refl}
use Rattle.std.proofs.lemmas.Result.{err_from_is_err_and}
use Rattle.chk_site.proofs.Leads.{leads_as}
use Rattle.chk_world.specs.JobSteps.{ReadsFile}
use Rattle.chk_book.proofs.Added.{cause_later}
use Rattle.chk_archive_merge.proofs.Onward.{none_from_some, all_read, more_read}
use Rattle.chk_book.proofs.Segmented.{unsaid as led_anyhow}
use Rattle.chk_archive_merge.proofs.Works.{works_value, works_fault}
use Rattle.chk_archive_merge.proofs.cursor.Cursor.read_on.Goals as goal

pub returns-in_err-read-clause-raw : goal.returns-in_err-read-clause-raw
returns-in_err-read-clause-raw g c names held one small =
    let p = err_from_is_err_and c.from_residual.result c.from_residual.ensures.1 in
    rw (p.1, p.2) (led_anyhow (λ h first took. tt) c.in_err-read.ensures.works)

pub returns-in_err-read-clause-works : goal.returns-in_err-read-clause-works
returns-in_err-read-clause-works g c =
    let p = err_from_is_err_and c.from_residual.result c.from_residual.ensures.1 in
    rw (p.1, p.2) (works_fault {T = Bool} {U = Option Bool} ReadsFile c.in_err-read.field-0.0 c.in_err-read.ensures.works)

pub returns-in_err-read-clause-only : goal.returns-in_err-read-clause-only
returns-in_err-read-clause-only g c =
    let p = err_from_is_err_and c.from_residual.result c.from_residual.ensures.1 in
    rw (p.1, p.2) c.in_err-read.ensures.only

pub returns-in_err-read-clause-cause : goal.returns-in_err-read-clause-cause
returns-in_err-read-clause-cause g c =
    let p = err_from_is_err_and c.from_residual.result c.from_residual.ensures.1 in
    rw (p.1, p.2)
    (cause_later (Option Bool) Bool c.in_err-read.field-0.0 (g.S.Site.fault_count c.args.site.now) (g.S.Site.fault_count c.args.site.now)
    (g.S.Site.fault_count c.read.new.site) refl c.in_err-read.ensures.cause)

pub returns-then-branch-clause-raw : goal.returns-then-branch-clause-raw
returns-then-branch-clause-raw g c names held one small =
    leads_as (λ h x. x)
    (λ h x first took. more_read names held c.args.name.now first c.args.self.now c.read.new.self h took x)
    (rw c.if-branch.true at c.in_ok-read.ensures.raw names held one small)

pub returns-then-branch-clause-works : goal.returns-then-branch-clause-works
returns-then-branch-clause-works g c = works_value ReadsFile c.in_ok-read.field-0 _ c.in_ok-read.ensures.works

pub returns-then-branch-clause-cause : goal.returns-then-branch-clause-cause
returns-then-branch-clause-cause g c = c.in_ok-read.ensures.cause

pub returns-clause-raw : goal.returns-clause-raw
returns-clause-raw g c names held one small =
    leads_as (λ h x. x)
    (λ h x first took.
    all_read names held c.args.name.now first c.args.self.now c.read.new.self c.is_none.result c.unfinished.result h (none_from_some c.unfinished.result c.is_none.result c.is_none.ensures) took x
    c.unfinished.ensures)
    (rw c.if-branch.false at c.in_ok-read.ensures.raw names held one small)

pub returns-clause-works : goal.returns-clause-works
returns-clause-works g c = works_value ReadsFile c.in_ok-read.field-0 _ c.in_ok-read.ensures.works

pub returns-clause-cause : goal.returns-clause-cause
returns-clause-cause g c = c.in_ok-read.ensures.cause
