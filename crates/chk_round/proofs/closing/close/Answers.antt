use Rattle.std.proofs.Common.{[], Result, Ok, Err, ap, sym, ◌∙◌, subst}
use Rattle.std.proofs.lemmas.Result.{err_from_is_err_and}
use Rattle.chk_site.specs.Site.{Adds}
use Rattle.chk_site.proofs.Leads.{leads_as}
use Rattle.chk_world.specs.Books.{book_in}
use Rattle.chk_world.specs.Sight.{job}
use Rattle.chk_sink.specs.States.{State as Sinks, process}
use Rattle.chk_archive.specs.declared.report.Report.{Report}
use Rattle.chk_round.specs.declared.faults.RoundFault.{RoundFault}
use Rattle.chk_round.specs.Faults.{FailsLast, of_job}
use Rattle.std.proofs.Common.{None}
use Rattle.chk_round.proofs.Closes.{closed, run_told, unarchived, unfinished}
use Rattle.chk_round.proofs.Ends.{job_last, last_late, nothing_then}
use Rattle.chk_round.proofs.Given.{given_behind}
use Rattle.chk_round.proofs.NonePast.{quiet_none_past, sends_then}
use Rattle.chk_round.proofs.Theirs.{closes_theirs}
use Rattle.chk_round.proofs.NoRead.{job_plain, job_shown, sinks_plain, sinks_shown, work_late}
use Rattle.chk_round.proofs.Acts.{rest_then, archive_acts, tick_acts}
use Rattle.chk_round.proofs.closing.close.Goals as goal

pub returns-in_err-finish-clause-told : goal.returns-in_err-finish-clause-told
returns-in_err-finish-clause-told g c stamped started acting a sound run j_in j_acts =
    let p = err_from_is_err_and c.from_residual.result c.from_residual.ensures.1 in
    rw (p.1, p.2)
    (unfinished stamped started acting c.args.collector.now c.finish.new.self a sound run c.in_err-finish.field-0.0
    c.in_err-finish.ensures.only (c.in_err-finish.ensures.told stamped))

pub returns-in_err-report-clause-told : goal.returns-in_err-report-clause-told
returns-in_err-report-clause-told g c stamped started acting a sound run j_in j_acts =
    let p = err_from_is_err_and c.from_residual-in_err-report.result c.from_residual-in_err-report.ensures.1 in
    rw (p.1, p.2)
    (unarchived stamped started acting c.args.collector.now c.finish.new.self a sound run j_in j_acts
    c.in_ok-finish.ensures.same.collector (c.in_ok-finish.ensures.told stamped) c.in_err-report.field-0.0
    (run_told stamped (Err c.in_err-report.field-0.0) (book_in None) (c.in_err-report.ensures.told stamped)))

pub returns-in_err-report-clause-last : goal.returns-in_err-report-clause-last
returns-in_err-report-clause-last g c =
    let p = err_from_is_err_and c.from_residual-in_err-report.result c.from_residual-in_err-report.ensures.1 in
    subst (λ (r : Result Report RoundFault). Adds (g.S.Site.told c.args.site.now) (g.S.Site.told c.archive.new.site) (FailsLast r))
    (sym (p.1 ∙ ap Err p.2))
    (last_late Report _ (c.in_ok-finish.ensures.told []) (job_last Report Report c.in_err-report.field-0.0 c.in_err-report.ensures.last))

pub returns-clause-told : goal.returns-clause-told
returns-clause-told g c stamped started acting a sound run j_in j_acts =
    closed stamped started acting c.args.collector.now c.finish.new.self a sound run j_in j_acts
    c.in_ok-finish.ensures.same.collector (c.in_ok-finish.ensures.told stamped) c.in_ok-report.report
    (run_told stamped (Ok c.in_ok-report.report) (book_in None) (c.in_ok-report.ensures.told stamped))

pub returns-clause-last : goal.returns-clause-last
returns-clause-last g c = nothing_then (c.in_ok-finish.ensures.told []) c.in_ok-report.ensures.own

pub returns-clause-sends : goal.returns-clause-sends
returns-clause-sends g c stamped started s end one =
    sends_then s end stamped started
    (quiet_none_past s end stamped started one (process c.args.collector.now) (c.in_ok-finish.ensures.told stamped))
    (quiet_none_past s end stamped started one job (c.in_ok-report.ensures.told stamped (book_in None)))

pub returns-clause-given : goal.returns-clause-given
returns-clause-given g c =
    given_behind c.args.collector.now.collector (c.in_ok-finish.ensures.told []) c.in_ok-report.ensures.given

pub returns-clause-theirs : goal.returns-clause-theirs
returns-clause-theirs g c =
    let is = c.in_ok-finish.ensures.ok in
    closes_theirs c.args.collector.now c.finish.new.self c.finish.ensures.same.collector
    (ap (λ (k : Sinks). k.current) is) (ap (λ (k : Sinks). k.abandoned) is)
    (λ stamped. leads_as (λ h x. x)
    (λ h x. record { legal = x.legal; may_act = x.may_act; alive = λ running. (x.alive running).holds })
    (c.in_ok-finish.ensures.told stamped))
    (λ stamped. leads_as (λ h x. x) (λ h x. x.legal)
    (run_told stamped (Ok c.in_ok-report.report) (book_in None) (c.in_ok-report.ensures.told stamped)))
    c.in_ok-report.ensures.given

pub returns-in_err-finish-clause-only : goal.returns-in_err-finish-clause-only
returns-in_err-finish-clause-only g c =
    let p = err_from_is_err_and c.from_residual.result c.from_residual.ensures.1 in
    rw (p.1, p.2) (sinks_plain c.in_err-finish.field-0.0)

pub returns-in_err-report-clause-only : goal.returns-in_err-report-clause-only
returns-in_err-report-clause-only g c =
    let p = err_from_is_err_and c.from_residual-in_err-report.result c.from_residual-in_err-report.ensures.1 in
    rw (p.1, p.2) (job_plain c.in_err-report.field-0.0)

pub returns-in_err-finish-clause-acts : goal.returns-in_err-finish-clause-acts
returns-in_err-finish-clause-acts g c = tick_acts c.args.collector.now c.finish.ensures.own

pub returns-in_err-report-clause-acts : goal.returns-in_err-report-clause-acts
returns-in_err-report-clause-acts g c =
    rest_then (tick_acts c.args.collector.now c.finish.ensures.own) (archive_acts c.archive.ensures.own)

pub returns-clause-acts : goal.returns-clause-acts
returns-clause-acts g c =
    rest_then (tick_acts c.args.collector.now c.finish.ensures.own) (archive_acts c.archive.ensures.own)

pub returns-in_err-finish-clause-shown : goal.returns-in_err-finish-clause-shown
returns-in_err-finish-clause-shown g c =
    let p = err_from_is_err_and c.from_residual.result c.from_residual.ensures.1 in
    rw (p.1, p.2)
    (sinks_shown Report c.args.collector.now c.in_err-finish.field-0.0 c.in_err-finish.ensures.only
    c.in_err-finish.ensures.own c.in_err-finish.ensures.damaged)

pub returns-in_err-report-clause-shown : goal.returns-in_err-report-clause-shown
returns-in_err-report-clause-shown g c =
    let p = err_from_is_err_and c.from_residual-in_err-report.result c.from_residual-in_err-report.ensures.1 in
    rw (p.1, p.2)
    (work_late Report Report (of_job c.in_err-report.field-0.0) (g.S.Site.told c.archive.new.site)
    (c.in_ok-finish.ensures.told [])
    (job_shown Report c.in_err-report.field-0.0 c.in_err-report.ensures.own
    c.in_err-report.ensures.shown c.in_err-report.ensures.told))
