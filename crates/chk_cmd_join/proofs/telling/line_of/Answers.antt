use Rattle.std.proofs.Common.{arith}
use Rattle.chk_cmd_join.proofs.Lines.{join_line_one}
use Rattle.chk_cmd_join.proofs.telling.line_of.Goals as goal

pub returns-in_err-put_join-clause-one : goal.returns-in_err-put_join-clause-one
returns-in_err-put_join-clause-one c = join_line_one c.args.streams c.args.bytes (omega arith)
    (omega arith)

pub returns-clause-one : goal.returns-clause-one
returns-clause-one c = join_line_one c.args.streams c.args.bytes (omega arith) (omega arith)
