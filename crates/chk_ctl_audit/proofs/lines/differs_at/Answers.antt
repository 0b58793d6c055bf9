use Rattle.chk_ctl_audit.proofs.LineWords.{differs_lacks}
use Rattle.chk_ctl_audit.proofs.lines.differs_at.Goals as goal

pub returns-clause-one : goal.returns-clause-one
returns-clause-one c = differs_lacks c.args.at c.ranges.at.fits

pub returns-in_err-text-clause-one : goal.returns-in_err-text-clause-one
returns-in_err-text-clause-one c = differs_lacks c.args.at c.ranges.at.fits
