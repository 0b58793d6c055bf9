use Rattle.std.proofs.Common.{◌∙◌}
use Rattle.std.specs.Fmt.{digits}
use Rattle.chk_ctl_run.proofs.Shown.{archive_one, archive_spelled}
use Rattle.chk_ctl_run.proofs.verifying.archive_text.Goals as goal

pub returns-clause-line : goal.returns-clause-line
unfolding digits
returns-clause-line c = c.in_ok-text.ensures.ok ∙ archive_spelled c.args.archived

pub returns-clause-one : goal.returns-clause-one
returns-clause-one c = archive_one c.args.archived c.ranges.archived.fits

pub returns-in_err-text-clause-one : goal.returns-in_err-text-clause-one
returns-in_err-text-clause-one c = archive_one c.args.archived c.ranges.archived.fits
