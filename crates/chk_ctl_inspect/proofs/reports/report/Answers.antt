use Rattle.std.proofs.Common.{None}
use Rattle.chk_ctl_machine.proofs.Lends.{lent, may_take_back}
use Rattle.chk_ctl_inspect.specs.Reporting.{ReportsBy}
use Rattle.chk_ctl_inspect.proofs.reports.report.Goals as goal

pub take_back-requires : goal.take_back-requires
take_back-requires g c =
    may_take_back None _ _ _ _ _ c.lend-folder.ensures c.report_by-outcome.ensures.own

pub returns : goal.returns
returns g c = record {
  outcome = c.report_by-outcome.result;
  back = g.M.Machine.told c.take_back.new.self;
  lent =
      lent None (ReportsBy c.args.form c.args.sight.now c.report_by-outcome.result) _ _ _ _ _ _ _
      c.lend-folder.ensures c.take_back.ensures (record { told = c.report_by-outcome.ensures.told; cause = c.report_by-outcome.ensures.cause });
  told = c.end_with.ensures.told;
  is = c.end_with.ensures.status;
}
