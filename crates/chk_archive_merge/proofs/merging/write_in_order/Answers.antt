use Rattle.std.proofs.Common.{◌∙◌, Bool, Option, Ok, Err, length, refl, sym, ap, subst}
use Rattle.std.proofs.lemmas.Result.{err_from_is_err_and}
use Rattle.chk_site.proofs.Leads.{leads_as, leads_then}
use Rattle.chk_world.specs.JobSteps.{ReadsOrWrites}
use Rattle.chk_book.proofs.Added.{cause_later, cause_then, spent_write, write_begins}
use Rattle.chk_book.specs.declared.book.Book.{Book as Struct}
use Rattle.chk_book.specs.Folders.{segment_name}
use Rattle.chk_record_reader.specs.Merging.{bare_book}
use Rattle.chk_archive_merge.specs.Merges.{StandOpen}
use Rattle.chk_book.proofs.Segmented.{unsaid as led_anyhow}
use Rattle.chk_archive_merge.proofs.Wholes.{spared_more, opened_has}
use Rattle.chk_archive_merge.proofs.Works.{works_value, works_fault, works_read}
use Rattle.chk_book.proofs.Works.{works_then}
use Rattle.chk_archive_merge.proofs.merging.write_in_order.Goals as goal

pub returns-in_err-open_all-clause-raw : goal.returns-in_err-open_all-clause-raw
returns-in_err-open_all-clause-raw g c held settled apart rising =
    let p = err_from_is_err_and c.from_residual.result c.from_residual.ensures.1 in
    rw (p.1, p.2) (led_anyhow (λ h. tt) c.in_err-open_all.ensures.works)

pub returns-in_err-open_all-clause-works : goal.returns-in_err-open_all-clause-works
returns-in_err-open_all-clause-works g c =
    let p = err_from_is_err_and c.from_residual.result c.from_residual.ensures.1 in
    let segment = segment_name c.args.folder.now c.args.next in
    rw (p.1, p.2)
    (works_fault {T = Bool} {U = Option Struct} (ReadsOrWrites segment) c.in_err-open_all.field-0.0
    (works_read {T = Bool} segment (Err c.in_err-open_all.field-0.0) c.in_err-open_all.ensures.works))

pub returns-in_err-open_all-clause-spent : goal.returns-in_err-open_all-clause-spent
returns-in_err-open_all-clause-spent g c =
    let p = err_from_is_err_and c.from_residual.result c.from_residual.ensures.1 in
    rw (p.1, p.2) (spent_write (Unit {0}) (bare_book c.args.next) c.in_err-open_all.field-0.0 c.in_err-open_all.ensures.only c.requires.next)

pub returns-in_err-open_all-clause-only : goal.returns-in_err-open_all-clause-only
returns-in_err-open_all-clause-only g c =
    let p = err_from_is_err_and c.from_residual.result c.from_residual.ensures.1 in
    rw (p.1, p.2) (write_begins c.in_err-open_all.field-0.0 c.in_err-open_all.ensures.only)

pub returns-in_err-open_all-clause-cause : goal.returns-in_err-open_all-clause-cause
returns-in_err-open_all-clause-cause g c =
    let p = err_from_is_err_and c.from_residual.result c.from_residual.ensures.1 in
    rw (p.1, p.2)
    (cause_later (Option Struct) Bool c.in_err-open_all.field-0.0 (g.S.Site.fault_count c.args.site.now) (g.S.Site.fault_count c.args.site.now)
    (g.S.Site.fault_count c.open_all.new.site) refl c.in_err-open_all.ensures.cause)

pub returns-then-not-branch-clause-raw : goal.returns-then-not-branch-clause-raw
returns-then-not-branch-clause-raw g c held settled apart rising =
    let names = c.args.names.now in
    spared_more names (segment_name c.args.folder.now c.args.next)
    (leads_as (λ h x. x) (λ h x. opened_has c.most_in.result names held c.open_all.new.cursors.items c.in_ok-open_all.field-0 h x)
    (c.in_ok-open_all.ensures.raw held settled))

pub returns-then-not-branch-clause-works : goal.returns-then-not-branch-clause-works
returns-then-not-branch-clause-works g c =
    let segment = segment_name c.args.folder.now c.args.next in
    works_value (ReadsOrWrites segment) c.in_ok-open_all.field-0 _
    (works_read segment (Ok c.in_ok-open_all.field-0) c.in_ok-open_all.ensures.works)

pub returns-then-not-branch-clause-cause : goal.returns-then-not-branch-clause-cause
returns-then-not-branch-clause-cause g c = c.in_ok-open_all.ensures.cause

pub returns-clause-raw : goal.returns-clause-raw
returns-clause-raw g c held settled apart rising =
    let names = c.args.names.now in
    leads_then
    (spared_more names (segment_name c.args.folder.now c.args.next)
    (leads_as (λ h x. x)
    (λ h x.
    subst (λ m. StandOpen m names held c.deref_mut.result.now h) c.most_in.ensures.most
    (subst (λ cs. StandOpen c.most_in.result names held cs h) (sym c.deref_mut.ensures.value) x))
    (rw c.if-not-branch.false at c.in_ok-open_all.ensures.raw held settled)))
    (c.write_merged.ensures.raw held settled apart rising)

pub returns-clause-works : goal.returns-clause-works
returns-clause-works g c =
    let segment = segment_name c.args.folder.now c.args.next in
    works_then (ReadsOrWrites segment) (Ok c.in_ok-open_all.field-0) c.write_merged.result
    (works_read segment (Ok c.in_ok-open_all.field-0) c.in_ok-open_all.ensures.works) c.write_merged.ensures.works

pub returns-clause-cause : goal.returns-clause-cause
returns-clause-cause g c =
    cause_then c.write_merged.result (g.S.Site.fault_count c.args.site.now) (g.S.Site.fault_count c.open_all.new.site)
    (g.S.Site.fault_count c.write_merged.new.site) c.in_ok-open_all.ensures.cause c.write_merged.ensures.cause

pub write_merged-requires-clause-count : goal.write_merged-requires-clause-count
write_merged-requires-clause-count g c = ap length c.deref_mut.ensures.value ∙ c.in_ok-open_all.ensures.count c.if-not-branch.false
