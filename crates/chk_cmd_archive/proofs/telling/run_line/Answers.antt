use Rattle.std.proofs.Common.{arith}
use Rattle.chk_cmd_archive.proofs.Lines.{run_line_one}
use Rattle.chk_cmd_archive.proofs.telling.run_line.Goals as goal

pub returns-in_err-put_archive-clause-one : goal.returns-in_err-put_archive-clause-one
returns-in_err-put_archive-clause-one c =
    run_line_one c.args.unclosed c.args.taken c.args.held c.args.removed (omega arith) (omega arith) (omega arith) (omega arith)

pub returns-clause-one : goal.returns-clause-one
returns-clause-one c =
    run_line_one c.args.unclosed c.args.taken c.args.held c.args.removed (omega arith) (omega arith) (omega arith) (omega arith)
