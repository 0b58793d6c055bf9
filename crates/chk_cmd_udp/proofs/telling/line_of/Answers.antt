use Rattle.std.proofs.Common.{arith}
use Rattle.chk_cmd_udp.proofs.Lines.{udp_line_one}
use Rattle.chk_cmd_udp.proofs.telling.line_of.Goals as goal

pub returns-in_err-put_udp-clause-one : goal.returns-in_err-put_udp-clause-one
returns-in_err-put_udp-clause-one c = udp_line_one c.args.taken c.args.bytes (omega arith) (omega arith)

pub returns-clause-one : goal.returns-clause-one
returns-clause-one c = udp_line_one c.args.taken c.args.bytes (omega arith) (omega arith)
