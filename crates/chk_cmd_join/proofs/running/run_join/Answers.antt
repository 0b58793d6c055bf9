use Rattle.std.proofs.Common.{inl, Ok, Err, refl}
use Rattle.chk_site.proofs.Runs.{adds_as}
use Rattle.chk_join.specs.Faults.{JoinsBy}
use Rattle.chk_archive_parts.proofs.StepKinds.{as_kind}
use Rattle.chk_cmd_join.specs.Telling.{JoinsAndTells, IsTold}
use Rattle.chk_cmd_join.proofs.CallKinds.{join_silent, of_join}
use Rattle.chk_cmd_join.proofs.Told.{join_left, shows_refused, told_both, own_both, shows_both, prints_both, runs_both, last_both, only_both}
use Rattle.chk_cmd_join.proofs.running.run_join.Goals as goal

pub returns-in-Ok-clause-told : goal.returns-in-Ok-clause-told
returns-in-Ok-clause-told g c stamped =
    told_both c.args.who.now c.requires.job c.in-Ok.report c.print_report.result c.in-Ok.ensures.own
    c.print_report.ensures.told stamped (c.in-Ok.ensures.told stamped)

pub returns-in-Ok-clause-shown : goal.returns-in-Ok-clause-shown
returns-in-Ok-clause-shown g c =
    let left = c.args.left.now in
    let right = c.args.right.now in
    shows_both c.args.who.now c.requires.job c.in-Ok.report c.print_report.result
    c.in-Ok.ensures.own
    c.print_report.ensures.told left right
    (join_left left right (Ok c.in-Ok.report) c.in-Ok.ensures.own c.in-Ok.ensures.raw
    c.in-Ok.ensures.kept)

pub returns-in-Ok-clause-own : goal.returns-in-Ok-clause-own
returns-in-Ok-clause-own g c =
    own_both c.args.who.now c.requires.job c.in-Ok.report c.print_report.result c.in-Ok.ensures.own
    c.print_report.ensures.told

pub returns-in-Ok-clause-prints : goal.returns-in-Ok-clause-prints
returns-in-Ok-clause-prints g c =
    prints_both c.args.who.now c.requires.job c.in-Ok.report c.print_report.result
    c.in-Ok.ensures.own
    c.print_report.ensures.told

pub returns-in-Ok-clause-runs : goal.returns-in-Ok-clause-runs
returns-in-Ok-clause-runs g c =
    runs_both c.args.who.now c.requires.job c.in-Ok.report c.print_report.result
    c.in-Ok.ensures.own c.print_report.ensures.told

pub returns-in-Ok-clause-only : goal.returns-in-Ok-clause-only
returns-in-Ok-clause-only g c =
    only_both c.args.who.now c.requires.job c.in-Ok.report c.print_report.result
    c.in-Ok.ensures.own c.print_report.ensures.told

pub returns-in-Ok-clause-last : goal.returns-in-Ok-clause-last
returns-in-Ok-clause-last g c =
    last_both c.args.who.now c.requires.job c.in-Ok.report c.print_report.result
    c.in-Ok.ensures.own c.print_report.ensures.told

pub returns-in-Err-clause-told : goal.returns-in-Err-clause-told
returns-in-Err-clause-told g c stamped = c.in-Err.ensures.told stamped

pub returns-in-Err-clause-shown : goal.returns-in-Err-clause-shown
returns-in-Err-clause-shown g c =
    let left = c.args.left.now in
    let right = c.args.right.now in
    shows_refused left right (Err c.in-Err.fault) c.in-Err.fault refl
    (join_left left right (Err c.in-Err.fault) c.in-Err.ensures.own c.in-Err.ensures.raw
    c.in-Err.ensures.kept)

pub returns-in-Err-clause-own : goal.returns-in-Err-clause-own
returns-in-Err-clause-own g c = as_kind JoinsBy JoinsAndTells of_join c.in-Err.ensures.own

pub returns-in-Err-clause-prints : goal.returns-in-Err-clause-prints
returns-in-Err-clause-prints g c =
    adds_as (IsTold (Err c.in-Err.fault)) (join_silent c.in-Err.ensures.own)
    (λ added history none. inl none)
