use Rattle.std.proofs.Common.{arith}
use Rattle.chk_collector.proofs.Sizes.{ack_short}
use Rattle.chk_collector.proofs.replies.put_line.Goals as goal

pub returns-in_err-write-clause-short : goal.returns-in_err-write-clause-short
returns-in_err-write-clause-short c = ack_short c.args.stem.now c.args.number c.number-sound.ensures.stem (omega arith)

pub returns-in_err-push_all-clause-short : goal.returns-in_err-push_all-clause-short
returns-in_err-push_all-clause-short c = ack_short c.args.stem.now c.args.number c.number-sound.ensures.stem (omega arith)

pub returns-in_err-put_decimal-clause-short : goal.returns-in_err-put_decimal-clause-short
returns-in_err-put_decimal-clause-short c = ack_short c.args.stem.now c.args.number c.number-sound.ensures.stem (omega arith)

pub returns-clause-short : goal.returns-clause-short
returns-clause-short c = ack_short c.args.stem.now c.args.number c.number-sound.ensures.stem (omega arith)
