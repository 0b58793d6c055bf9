use Rattle.std.proofs.Common.{◌∙◌}
use Rattle.std.specs.Fmt.{digits}
use Rattle.chk_ctl_run.proofs.Shown.{sound_one, sound_spelled}
use Rattle.chk_ctl_run.proofs.verifying.sound_text.Goals as goal

pub returns-clause-line : goal.returns-clause-line
unfolding digits
returns-clause-line c = c.in_ok-text.ensures.ok ∙ sound_spelled c.args.archived c.args.split

pub returns-clause-one : goal.returns-clause-one
returns-clause-one c = sound_one c.args.archived c.args.split c.ranges.archived.fits
    c.ranges.split.fits

pub returns-in_err-text-clause-one : goal.returns-in_err-text-clause-one
returns-in_err-text-clause-one c = sound_one c.args.archived c.args.split c.ranges.archived.fits
    c.ranges.split.fits
