use Rattle.std.proofs.Common.{Ok, Err, refl, subst}
use Rattle.std.proofs.lemmas.Result.{err_from_is_err_and}
use Rattle.chk_site.proofs.Runs.{adds_as}
use Rattle.chk_record_index.specs.Faults.{FailsLast, job_fault}
use Rattle.chk_archive.specs.Archived.{ArchivesBy}
use Rattle.chk_archive.specs.Reporting.{report_view}
use Rattle.chk_archive.specs.declared.report.Report.{Report}
use Rattle.chk_archive_parts.proofs.StepKinds.{as_kind}
use Rattle.chk_cmd_output.specs.Printing.{PrintsInTurn}
use Rattle.chk_cmd_archive.specs.Telling.{ArchivesAndTells, report_lines}
use Rattle.chk_cmd_archive.proofs.CallKinds.{of_archive, Tells, says}
use Rattle.chk_cmd_archive.proofs.Told.{told_done, told_fails, own_both, once_both, once_fails, prints_both, runs_both, last_both}
use Rattle.chk_archive.proofs.Shown.{archived_fails, archived_kept}
use Rattle.chk_cmd_archive.proofs.running.run_archive.Goals as goal
use Rattle.chk_cmd_output.proofs.CallKinds.{prints_own}

pub returns-in_err-report-clause-told : goal.returns-in_err-report-clause-told
returns-in_err-report-clause-told g c stamped loaded =
    let q = err_from_is_err_and c.from_residual.result c.from_residual.ensures.1 in
    rw (q.1, q.2) (c.in_err-report.ensures.told stamped loaded)

pub returns-in_err-report-clause-own : goal.returns-in_err-report-clause-own
returns-in_err-report-clause-own g c = as_kind ArchivesBy ArchivesAndTells of_archive c.archive.ensures.own

pub returns-in_err-tell-clause-told : goal.returns-in_err-tell-clause-told
returns-in_err-tell-clause-told g c stamped loaded =
    let q = err_from_is_err_and c.from_residual-in_err-tell.result c.from_residual-in_err-tell.ensures.1 in
    rw (q.1, q.2)
    (told_fails (report_view c.in_ok-report.report) (Err c.in_err-tell.field-0.0) c.archive.ensures.own c.args.who.now c.requires c.in_err-tell.ensures.told
    stamped loaded c.in_err-tell.field-0.0 refl (c.in_ok-report.ensures.told stamped loaded))

pub returns-in_err-tell-clause-own : goal.returns-in_err-tell-clause-own
returns-in_err-tell-clause-own g c =
    own_both (report_view c.in_ok-report.report) (Err c.in_err-tell.field-0.0) c.archive.ensures.own c.args.who.now c.requires c.in_err-tell.ensures.told

pub returns-in_err-tell-clause-once : goal.returns-in_err-tell-clause-once
returns-in_err-tell-clause-once g c =
    let q = err_from_is_err_and c.from_residual-in_err-tell.result c.from_residual-in_err-tell.ensures.1 in
    rw (q.1, q.2)
    (once_fails (report_view c.in_ok-report.report) (Err c.in_err-tell.field-0.0) c.archive.ensures.own c.args.who.now c.requires c.in_err-tell.ensures.told
    Report (job_fault c.in_err-tell.field-0.0) c.in_ok-report.ensures.once)

pub returns-in_err-tell-clause-prints : goal.returns-in_err-tell-clause-prints
returns-in_err-tell-clause-prints g c =
    let q = err_from_is_err_and c.from_residual-in_err-tell.result c.from_residual-in_err-tell.ensures.1 in
    rw (q.1, q.2)
    (adds_as (λ added history. Unit {0})
    (own_both (report_view c.in_ok-report.report) (Err c.in_err-tell.field-0.0) c.archive.ensures.own c.args.who.now c.requires c.in_err-tell.ensures.told) (λ added history k. tt))

pub returns-in_err-tell-clause-runs : goal.returns-in_err-tell-clause-runs
returns-in_err-tell-clause-runs g c =
    let q = err_from_is_err_and c.from_residual-in_err-tell.result c.from_residual-in_err-tell.ensures.1 in
    rw (q.1, q.2)
    (adds_as (λ added history. Unit {0})
    (own_both (report_view c.in_ok-report.report) (Err c.in_err-tell.field-0.0) c.archive.ensures.own c.args.who.now c.requires c.in_err-tell.ensures.told) (λ added history k. tt))

pub returns-in_err-tell-clause-last : goal.returns-in_err-tell-clause-last
returns-in_err-tell-clause-last g c =
    let q = err_from_is_err_and c.from_residual-in_err-tell.result c.from_residual-in_err-tell.ensures.1 in
    rw (q.1, q.2)
    (last_both (report_view c.in_ok-report.report) (Err c.in_err-tell.field-0.0) c.archive.ensures.own c.args.who.now c.requires c.in_err-tell.ensures.told
    Report c.in_err-tell.field-0.0 refl)

pub returns-clause-told : goal.returns-clause-told
returns-clause-told g c stamped loaded =
    told_done (report_view c.in_ok-report.report) (Ok tt) c.archive.ensures.own c.args.who.now c.requires c.in_ok-tell.ensures.told
    stamped loaded refl (c.in_ok-report.ensures.told stamped loaded)

pub returns-clause-own : goal.returns-clause-own
returns-clause-own g c =
    own_both (report_view c.in_ok-report.report) (Ok tt) c.archive.ensures.own c.args.who.now c.requires c.in_ok-tell.ensures.told

pub returns-clause-once : goal.returns-clause-once
returns-clause-once g c =
    once_both (report_view c.in_ok-report.report) (Ok tt) c.archive.ensures.own c.args.who.now c.requires c.in_ok-tell.ensures.told
    c.in_ok-report.ensures.once

pub returns-clause-prints : goal.returns-clause-prints
returns-clause-prints g c =
    prints_both (report_view c.in_ok-report.report) (Ok tt) c.archive.ensures.own c.args.who.now c.requires c.in_ok-tell.ensures.told refl

pub returns-clause-runs : goal.returns-clause-runs
returns-clause-runs g c =
    runs_both (report_view c.in_ok-report.report) (Ok tt) c.archive.ensures.own c.args.who.now c.requires c.in_ok-tell.ensures.told refl

pub returns-clause-last : goal.returns-clause-last
returns-clause-last g c =
    adds_as (FailsLast {T = Report} (Ok c.in_ok-report.report))
    (own_both (report_view c.in_ok-report.report) (Ok tt) c.archive.ensures.own c.args.who.now c.requires c.in_ok-tell.ensures.told) (λ added history k. tt)

pub returns-in_err-tell-clause-shown : goal.returns-in_err-tell-clause-shown
returns-in_err-tell-clause-shown g c =
    let q = err_from_is_err_and c.from_residual-in_err-tell.result c.from_residual-in_err-tell.ensures.1 in
    rw (q.1, q.2)
    (archived_fails Report c.in_err-tell.field-0.0
    (own_both (report_view c.in_ok-report.report) (Err c.in_err-tell.field-0.0) c.archive.ensures.own c.args.who.now c.requires c.in_err-tell.ensures.told))

pub returns-clause-shown : goal.returns-clause-shown
returns-clause-shown g c =
    archived_kept Report c.in_ok-report.report c.in_ok-report.ensures.shown
    (prints_own Tells says (subst (λ w. PrintsInTurn w (report_lines (report_view c.in_ok-report.report)) (Ok tt) (g.S.Site.told c.archive.new.site)
    (g.S.Site.told c.tell.new.site)) c.requires c.in_ok-tell.ensures.told))
