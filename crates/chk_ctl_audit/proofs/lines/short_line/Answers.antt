use Rattle.chk_ctl_audit.proofs.LineWords.{short_one}
use Rattle.chk_ctl_audit.proofs.lines.short_line.Goals as goal

pub returns-clause-one : goal.returns-clause-one
returns-clause-one c =
    short_one c.args.source.now c.args.kind.now c.args.name.now c.args.start c.args.end c.args.begin
    c.requires.source c.requires.kind c.requires.name c.ranges.start.fits c.ranges.end.fits
    c.ranges.begin.fits c.args.words.now c.requires.words c.args.at c.ranges.at.fits
