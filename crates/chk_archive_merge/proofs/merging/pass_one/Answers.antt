use Rattle.std.proofs.Common.{ℕ, Bool, Option, refl}
use Rattle.std.proofs.lemmas.Result.{err_from_is_err_and}
use Rattle.chk_site.proofs.Leads.{leads_as, leads_none}
use Rattle.chk_world.specs.JobSteps.{ReadsFile}
use Rattle.chk_book.proofs.Added.{cause_later}
use Rattle.chk_archive_merge.proofs.Onward.{still_there}
use Rattle.chk_book.proofs.Segmented.{unsaid as led_anyhow}
use Rattle.chk_archive_merge.proofs.Works.{works_value, works_fault}
use Rattle.chk_book.proofs.Works.{works_none}
use Rattle.chk_archive_merge.proofs.merging.pass_one.Goals as goal

pub returns-in_default-clause-raw : goal.returns-in_default-clause-raw
returns-in_default-clause-raw g c names held settled one = leads_none _ (λ h x. x)

pub returns-in_default-clause-works : goal.returns-in_default-clause-works
returns-in_default-clause-works g c = works_none ReadsFile _ _

pub returns-in_err-advance-clause-raw : goal.returns-in_err-advance-clause-raw
returns-in_err-advance-clause-raw g c names held settled one =
    let p = err_from_is_err_and c.from_residual.result c.from_residual.ensures.1 in
    rw (p.1, p.2) (led_anyhow (λ h. tt) c.in_err-advance.ensures.works)

pub returns-in_err-advance-clause-works : goal.returns-in_err-advance-clause-works
returns-in_err-advance-clause-works g c =
    let p = err_from_is_err_and c.from_residual.result c.from_residual.ensures.1 in
    rw (p.1, p.2) (works_fault {T = Bool} {U = Option ℕ} ReadsFile c.in_err-advance.field-0.0 c.in_err-advance.ensures.works)

pub returns-in_err-advance-clause-only : goal.returns-in_err-advance-clause-only
returns-in_err-advance-clause-only g c =
    let p = err_from_is_err_and c.from_residual.result c.from_residual.ensures.1 in
    rw (p.1, p.2) c.in_err-advance.ensures.only

pub returns-in_err-advance-clause-cause : goal.returns-in_err-advance-clause-cause
returns-in_err-advance-clause-cause g c =
    let p = err_from_is_err_and c.from_residual.result c.from_residual.ensures.1 in
    rw (p.1, p.2)
    (cause_later (Option ℕ) Bool c.in_err-advance.field-0.0 (g.S.Site.fault_count c.args.site.now) (g.S.Site.fault_count c.args.site.now)
    (g.S.Site.fault_count c.advance.new.site) refl c.in_err-advance.ensures.cause)

pub returns-then-not-branch-clause-raw : goal.returns-then-not-branch-clause-raw
returns-then-not-branch-clause-raw g c names held settled one =
    leads_as (λ h x. x) (λ h x. still_there names held c.args.name.now c.args.cursor.now c.advance.new.self c.in_ok-advance.field-0 h x)
    (c.in_ok-advance.ensures.raw names held one (settled c.args.name.now one).1)

pub returns-then-not-branch-clause-works : goal.returns-then-not-branch-clause-works
returns-then-not-branch-clause-works g c = works_value ReadsFile c.in_ok-advance.field-0 _ c.in_ok-advance.ensures.works

pub returns-then-not-branch-clause-cause : goal.returns-then-not-branch-clause-cause
returns-then-not-branch-clause-cause g c = c.in_ok-advance.ensures.cause

pub returns-clause-raw : goal.returns-clause-raw
returns-clause-raw g c names held settled one =
    leads_as (λ h x. x) (λ h x. still_there names held c.args.name.now c.args.cursor.now c.advance.new.self c.in_ok-advance.field-0 h x)
    (c.in_ok-advance.ensures.raw names held one (settled c.args.name.now one).1)

pub returns-clause-works : goal.returns-clause-works
returns-clause-works g c = works_value ReadsFile c.in_ok-advance.field-0 _ c.in_ok-advance.ensures.works

pub returns-clause-cause : goal.returns-clause-cause
returns-clause-cause g c = c.in_ok-advance.ensures.cause
