use Rattle.std.proofs.Common.{inl, Ok, Err, refl}
use Rattle.std.proofs.lemmas.Result.{err_from_is_err_and}
use Rattle.chk_site.proofs.Runs.{adds_as}
use Rattle.chk_record_index.specs.Faults.{FailsLast, job_fault}
use Rattle.chk_demux.specs.Demuxed.{DemuxesBy}
use Rattle.chk_demux.specs.declared.report.DemuxReport.{DemuxReport}
use Rattle.chk_archive_parts.proofs.StepKinds.{as_kind}
use Rattle.chk_cmd_demux.specs.Telling.{DemuxesAndTells, IsTold}
use Rattle.chk_cmd_demux.proofs.CallKinds.{demux_silent, of_demux}
use Rattle.chk_cmd_demux.proofs.Told.{told_done, told_fails, own_both, prints_both, prints_none, runs_both, last_both}
use Rattle.chk_record_index.proofs.Causes.{shows_outside, shows_ok}
use Rattle.chk_demux.specs.Shown.{IsDamage, ShowsSpent}
use Rattle.chk_demux.proofs.Shown.{spent_outside}
use Rattle.chk_cmd_demux.proofs.running.run_demux.Goals as goal

pub returns-in_err-report-clause-told : goal.returns-in_err-report-clause-told
returns-in_err-report-clause-told g c stamped before named =
    let q = err_from_is_err_and c.from_residual.result c.from_residual.ensures.1 in
    rw (q.1, q.2) (c.in_err-report.ensures.told stamped before named)

pub returns-in_err-report-clause-own : goal.returns-in_err-report-clause-own
returns-in_err-report-clause-own g c = as_kind DemuxesBy DemuxesAndTells of_demux c.demux.ensures.own

pub returns-in_err-tell-clause-told : goal.returns-in_err-tell-clause-told
returns-in_err-tell-clause-told g c stamped before named =
    let q = err_from_is_err_and c.from_residual-in_err-tell.result c.from_residual-in_err-tell.ensures.1 in
    rw (q.1, q.2)
    (told_fails c.in_ok-report.report (Err c.in_err-tell.field-0.0) c.demux.ensures.own c.args.who.now c.requires
    c.in_err-tell.ensures.told
    stamped before c.in_err-tell.field-0.0 refl (c.in_ok-report.ensures.told stamped before named))

pub returns-in_err-tell-clause-own : goal.returns-in_err-tell-clause-own
returns-in_err-tell-clause-own g c =
    own_both c.in_ok-report.report (Err c.in_err-tell.field-0.0) c.demux.ensures.own c.args.who.now c.requires
    c.in_err-tell.ensures.told

pub returns-in_err-report-clause-prints : goal.returns-in_err-report-clause-prints
returns-in_err-report-clause-prints g c =
    let q = err_from_is_err_and c.from_residual.result c.from_residual.ensures.1 in
    rw (q.1, q.2) (adds_as (IsTold (Err c.in_err-report.field-0.0)) (demux_silent c.demux.ensures.own) (λ added history none. inl none))

pub returns-in_err-tell-clause-prints : goal.returns-in_err-tell-clause-prints
returns-in_err-tell-clause-prints g c =
    let q = err_from_is_err_and c.from_residual-in_err-tell.result c.from_residual-in_err-tell.ensures.1 in
    rw (q.1, q.2)
    (prints_none c.in_ok-report.report (Err c.in_err-tell.field-0.0) c.demux.ensures.own c.args.who.now c.requires
    c.in_err-tell.ensures.told (job_fault c.in_err-tell.field-0.0))

pub returns-in_err-tell-clause-runs : goal.returns-in_err-tell-clause-runs
returns-in_err-tell-clause-runs g c =
    let q = err_from_is_err_and c.from_residual-in_err-tell.result c.from_residual-in_err-tell.ensures.1 in
    rw (q.1, q.2)
    (adds_as (λ added history. Unit {0}) (own_both c.in_ok-report.report (Err c.in_err-tell.field-0.0) c.demux.ensures.own c.args.who.now c.requires
    c.in_err-tell.ensures.told) (λ added history k. tt))

pub returns-in_err-tell-clause-last : goal.returns-in_err-tell-clause-last
returns-in_err-tell-clause-last g c =
    let q = err_from_is_err_and c.from_residual-in_err-tell.result c.from_residual-in_err-tell.ensures.1 in
    rw (q.1, q.2)
    (last_both c.in_ok-report.report (Err c.in_err-tell.field-0.0) c.demux.ensures.own c.args.who.now c.requires
    c.in_err-tell.ensures.told
    c.in_err-tell.field-0.0 refl)

pub returns-clause-told : goal.returns-clause-told
returns-clause-told g c stamped before named =
    told_done c.in_ok-report.report (Ok tt) c.demux.ensures.own c.args.who.now c.requires c.in_ok-tell.ensures.told
    stamped before refl (c.in_ok-report.ensures.told stamped before named)

pub returns-clause-own : goal.returns-clause-own
returns-clause-own g c = own_both c.in_ok-report.report (Ok tt) c.demux.ensures.own c.args.who.now c.requires c.in_ok-tell.ensures.told

pub returns-clause-prints : goal.returns-clause-prints
returns-clause-prints g c =
    prints_both c.in_ok-report.report (Ok tt) c.demux.ensures.own c.args.who.now c.requires c.in_ok-tell.ensures.told refl

pub returns-clause-runs : goal.returns-clause-runs
returns-clause-runs g c =
    runs_both c.in_ok-report.report (Ok tt) c.demux.ensures.own c.args.who.now c.requires c.in_ok-tell.ensures.told refl

pub returns-clause-last : goal.returns-clause-last
returns-clause-last g c =
    adds_as (FailsLast {T = DemuxReport} (Ok c.in_ok-report.report))
    (own_both c.in_ok-report.report (Ok tt) c.demux.ensures.own c.args.who.now c.requires c.in_ok-tell.ensures.told) (λ added history k. tt)

pub returns-in_err-tell-clause-shown : goal.returns-in_err-tell-clause-shown
returns-in_err-tell-clause-shown g c =
    let q = err_from_is_err_and c.from_residual-in_err-tell.result c.from_residual-in_err-tell.ensures.1 in
    rw (q.1, q.2)
    (shows_outside DemuxReport IsDamage c.in_err-tell.field-0.0
    (own_both c.in_ok-report.report (Err c.in_err-tell.field-0.0) c.demux.ensures.own c.args.who.now c.requires c.in_err-tell.ensures.told))

pub returns-clause-shown : goal.returns-clause-shown
returns-clause-shown g c =
    shows_ok IsDamage c.in_ok-report.report
    (own_both c.in_ok-report.report (Ok tt) c.demux.ensures.own c.args.who.now c.requires c.in_ok-tell.ensures.told)

pub returns-in_err-report-clause-spent : goal.returns-in_err-report-clause-spent
returns-in_err-report-clause-spent g c =
    let q = err_from_is_err_and c.from_residual.result c.from_residual.ensures.1 in
    rw (q.1, q.2) c.in_err-report.ensures.spent

pub returns-in_err-tell-clause-spent : goal.returns-in_err-tell-clause-spent
returns-in_err-tell-clause-spent g c =
    let q = err_from_is_err_and c.from_residual-in_err-tell.result
    c.from_residual-in_err-tell.ensures.1 in
    rw (q.1, q.2)
    (spent_outside DemuxReport c.in_err-tell.field-0.0
    (own_both c.in_ok-report.report (Err c.in_err-tell.field-0.0) c.demux.ensures.own c.args.who.now
    c.requires c.in_err-tell.ensures.told))

pub returns-clause-spent : goal.returns-clause-spent
returns-clause-spent g c =
    adds_as (ShowsSpent {T = DemuxReport} (Ok c.in_ok-report.report))
    (own_both c.in_ok-report.report (Ok tt) c.demux.ensures.own c.args.who.now c.requires
    c.in_ok-tell.ensures.told) (λ added history k. tt)
