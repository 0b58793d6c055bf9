use Rattle.chk_ctl_sum.proofs.LineWords.{words_one}
use Rattle.chk_ctl_sum.proofs.lines.line_with.Goals as goal

pub returns-in_err-named-clause-one : goal.returns-in_err-named-clause-one
returns-in_err-named-clause-one c =
    words_one c.args.source.now c.args.kind.now c.args.name.now c.args.start c.args.end
    c.args.digest.now c.requires.source c.requires.kind c.requires.name c.ranges.start.fits
    c.ranges.end.fits

pub returns-in_err-digits-clause-one : goal.returns-in_err-digits-clause-one
returns-in_err-digits-clause-one c =
    words_one c.args.source.now c.args.kind.now c.args.name.now c.args.start c.args.end
    c.args.digest.now c.requires.source c.requires.kind c.requires.name c.ranges.start.fits
    c.ranges.end.fits

pub returns-in_err-text-clause-one : goal.returns-in_err-text-clause-one
returns-in_err-text-clause-one c =
    words_one c.args.source.now c.args.kind.now c.args.name.now c.args.start c.args.end
    c.args.digest.now c.requires.source c.requires.kind c.requires.name c.ranges.start.fits
    c.ranges.end.fits

pub returns-clause-one : goal.returns-clause-one
returns-clause-one c =
    words_one c.args.source.now c.args.kind.now c.args.name.now c.args.start c.args.end
    c.args.digest.now c.requires.source c.requires.kind c.requires.name c.ranges.start.fits
    c.ranges.end.fits
