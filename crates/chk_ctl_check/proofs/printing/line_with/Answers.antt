use Rattle.chk_ctl_check.proofs.FindingLines.{trouble_one}
use Rattle.chk_ctl_check.proofs.printing.line_with.Goals as goal

pub returns-clause-one : goal.returns-clause-one
returns-clause-one c = trouble_one c.args.line c.args.trouble c.ranges.line.fits

pub returns-in_err-text-clause-one : goal.returns-in_err-text-clause-one
returns-in_err-text-clause-one c = trouble_one c.args.line c.args.trouble c.ranges.line.fits
