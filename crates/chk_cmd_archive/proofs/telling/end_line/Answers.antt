use Rattle.chk_cmd_archive.proofs.Lines.{end_line_one}
use Rattle.chk_cmd_archive.proofs.telling.end_line.Goals as goal

pub returns-in_err-put_end-clause-one : goal.returns-in_err-put_end-clause-one
returns-in_err-put_end-clause-one c =
    end_line_one c.args.source.now c.args.kind.now c.args.name.now c.args.end c.requires.source c.requires.kind c.requires.name c.ranges.end.fits

pub returns-clause-one : goal.returns-clause-one
returns-clause-one c =
    end_line_one c.args.source.now c.args.kind.now c.args.name.now c.args.end c.requires.source c.requires.kind c.requires.name c.ranges.end.fits
