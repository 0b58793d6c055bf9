use Rattle.chk_ctl_audit.proofs.LineWords.{same_one}
use Rattle.chk_ctl_audit.proofs.lines.same_line.Goals as goal

pub returns-clause-one : goal.returns-clause-one
returns-clause-one c =
    same_one c.args.source.now c.args.kind.now c.args.name.now c.args.start c.args.end c.args.begin
    c.requires.source c.requires.kind c.requires.name c.ranges.start.fits c.ranges.end.fits
    c.ranges.begin.fits c.args.digest.now
