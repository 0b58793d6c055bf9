use Rattle.std.proofs.Common.{◌∙◌, ◌++◌, ap}
use Rattle.std.specs.Fmt.{digits}
use Rattle.chk_ctl_streams.proofs.LineWords.{words_one, placed, spelled}
use Rattle.chk_ctl_streams.proofs.lines.line_with.Goals as goal

pub returns-clause-line : goal.returns-clause-line
unfolding digits
returns-clause-line c =
    c.in_ok-text.ensures.ok
    ∙ ap (λ front. front ++ placed c.args.start c.args.end c.args.split) c.in_ok-named.ensures
    ∙ spelled c.args.source.now c.args.kind.now c.args.name.now c.args.start c.args.end
    c.args.split

pub returns-clause-one : goal.returns-clause-one
returns-clause-one c =
    words_one c.args.source.now c.args.kind.now c.args.name.now c.args.start c.args.end
    c.args.split c.requires.source c.requires.kind
    c.requires.name c.ranges.start.fits c.ranges.end.fits c.ranges.split.fits

pub returns-in_err-text-clause-one : goal.returns-in_err-text-clause-one
returns-in_err-text-clause-one c =
    words_one c.args.source.now c.args.kind.now c.args.name.now c.args.start c.args.end
    c.args.split c.requires.source c.requires.kind
    c.requires.name c.ranges.start.fits c.ranges.end.fits c.ranges.split.fits

pub returns-in_err-named-clause-one : goal.returns-in_err-named-clause-one
returns-in_err-named-clause-one c =
    words_one c.args.source.now c.args.kind.now c.args.name.now c.args.start c.args.end
    c.args.split c.requires.source c.requires.kind
    c.requires.name c.ranges.start.fits c.ranges.end.fits c.ranges.split.fits
