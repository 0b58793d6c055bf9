use Rattle.chk_ctl_verify.proofs.Lines.{damage_one, damage_spelled}
use Rattle.std.proofs.Common.{◌∙◌}
use Rattle.std.specs.Fmt.{digits}
use Rattle.chk_ctl_verify.proofs.telling.damage_line.Goals as goal

pub returns-clause-line : goal.returns-clause-line
unfolding digits
returns-clause-line c =
    c.in_ok-text.ensures.ok ∙ damage_spelled c.args.name.now c.args.at

pub returns-clause-one : goal.returns-clause-one
returns-clause-one c =
    damage_one c.args.name.now c.args.at c.requires.name c.ranges.at.fits

pub returns-in_err-text-clause-one : goal.returns-in_err-text-clause-one
returns-in_err-text-clause-one c =
    damage_one c.args.name.now c.args.at c.requires.name c.ranges.at.fits
