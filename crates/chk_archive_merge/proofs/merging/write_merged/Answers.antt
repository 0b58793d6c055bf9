use Rattle.std.proofs.Common.{◌∙◌, Bool, [], map, Option, None, refl, ap}
use Rattle.std.proofs.lemmas.Result.{err_from_is_err_and}
use Rattle.chk_world.specs.Books.{Book}
use Rattle.chk_world.specs.JobSteps.{ReadsOrWrites}
use Rattle.chk_book.proofs.Added.{cause_later}
use Rattle.chk_book.specs.declared.book.Book.{Book as Struct}
use Rattle.chk_book.specs.Folders.{segment_name}
use Rattle.chk_book.specs.Views.{segment_view, end_view}
use Rattle.chk_book.proofs.Segmented.{unsaid as led_anyhow}
use Rattle.chk_archive_merge.proofs.Works.{works_value, works_fault}
use Rattle.chk_archive_merge.proofs.merging.write_merged.Goals as goal

pub write_segment-requires-clause-bare : goal.write_segment-requires-clause-bare
write_segment-requires-clause-bare g c =
    ap (λ gs. let b : Book = record { next = c.args.next; segments = map segment_view gs; ends = map end_view c.new-2.result; aside = None } in b)
    c.new.ensures
    ∙ ap (λ es. let b : Book = record { next = c.args.next; segments = []; ends = map end_view es; aside = None } in b) c.new-2.ensures

pub returns-in_err-write_segment-clause-raw : goal.returns-in_err-write_segment-clause-raw
returns-in_err-write_segment-clause-raw g c held settled apart rising =
    let p = err_from_is_err_and c.from_residual.result c.from_residual.ensures.1 in
    rw (p.1, p.2) (led_anyhow (λ h. tt) c.in_err-write_segment.ensures.works)

pub returns-in_err-write_segment-clause-works : goal.returns-in_err-write_segment-clause-works
returns-in_err-write_segment-clause-works g c =
    let p = err_from_is_err_and c.from_residual.result c.from_residual.ensures.1 in
    rw (p.1, p.2)
    (works_fault {T = Bool} {U = Option Struct} (ReadsOrWrites (segment_name c.args.folder.now c.args.next)) c.in_err-write_segment.field-0.0
    c.in_err-write_segment.ensures.works)

pub returns-in_err-write_segment-clause-spent : goal.returns-in_err-write_segment-clause-spent
returns-in_err-write_segment-clause-spent g c =
    let p = err_from_is_err_and c.from_residual.result c.from_residual.ensures.1 in
    rw (p.1, p.2) c.in_err-write_segment.ensures.spent

pub returns-in_err-write_segment-clause-only : goal.returns-in_err-write_segment-clause-only
returns-in_err-write_segment-clause-only g c =
    let p = err_from_is_err_and c.from_residual.result c.from_residual.ensures.1 in
    rw (p.1, p.2) c.in_err-write_segment.ensures.only

pub returns-in_err-write_segment-clause-cause : goal.returns-in_err-write_segment-clause-cause
returns-in_err-write_segment-clause-cause g c =
    let p = err_from_is_err_and c.from_residual.result c.from_residual.ensures.1 in
    rw (p.1, p.2)
    (cause_later (Option Struct) Bool c.in_err-write_segment.field-0.0 (g.S.Site.fault_count c.args.site.now) (g.S.Site.fault_count c.args.site.now)
    (g.S.Site.fault_count c.write_segment.new.site) refl c.in_err-write_segment.ensures.cause)

pub returns-then-not-branch-clause-raw : goal.returns-then-not-branch-clause-raw
returns-then-not-branch-clause-raw g c held settled apart rising =
    rw c.if-not-branch.true at c.in_ok-write_segment.ensures.raw held settled apart rising

pub returns-then-not-branch-clause-works : goal.returns-then-not-branch-clause-works
returns-then-not-branch-clause-works g c =
    works_value (ReadsOrWrites (segment_name c.args.folder.now c.args.next)) c.in_ok-write_segment.field-0 _ c.in_ok-write_segment.ensures.works

pub returns-then-not-branch-clause-cause : goal.returns-then-not-branch-clause-cause
returns-then-not-branch-clause-cause g c = c.in_ok-write_segment.ensures.cause

pub returns-clause-raw : goal.returns-clause-raw
returns-clause-raw g c held settled apart rising =
    rw c.if-not-branch.false at c.in_ok-write_segment.ensures.raw held settled apart rising

pub returns-clause-works : goal.returns-clause-works
returns-clause-works g c =
    works_value (ReadsOrWrites (segment_name c.args.folder.now c.args.next)) c.in_ok-write_segment.field-0 _ c.in_ok-write_segment.ensures.works

pub returns-clause-next : goal.returns-clause-next
returns-clause-next g c = c.in_ok-write_segment.ensures.next c.if-not-branch.false

pub returns-clause-cause : goal.returns-clause-cause
returns-clause-cause g c = c.in_ok-write_segment.ensures.cause
