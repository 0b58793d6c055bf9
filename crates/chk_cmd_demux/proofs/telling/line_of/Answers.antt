use Rattle.std.proofs.Common.{arith}
use Rattle.chk_cmd_demux.proofs.Lines.{demux_line_one}
use Rattle.chk_cmd_demux.proofs.telling.line_of.Goals as goal

pub returns-in_err-put_demux-clause-one : goal.returns-in_err-put_demux-clause-one
returns-in_err-put_demux-clause-one c =
    demux_line_one c.args.taken c.args.entries c.args.left (omega arith) (omega arith) (omega arith)

pub returns-clause-one : goal.returns-clause-one
returns-clause-one c = demux_line_one c.args.taken c.args.entries c.args.left (omega arith) (omega arith) (omega arith)
