use Rattle.std.proofs.Common.{arith, rules}
use Rattle.chk_bytes.proofs.DecimalLemmas.{front_short, front_more}
use Rattle.chk_bytes.proofs.decimals.number_of.Goals as goal

pub overflow_mul-n : goal.overflow_mul-n
overflow_mul-n c =
    let l = c.loop-digit in
    let short = front_short c.args.digits.now l.digit-index c.requires.digits (omega arith) in
    search rules

pub overflow_add-n : goal.overflow_add-n
overflow_add-n c =
    let l = c.loop-digit in
    let short = front_short c.args.digits.now l.digit-index c.requires.digits (omega arith) in
    search rules

pub loop-digit-preserved : goal.loop-digit-preserved
loop-digit-preserved c =
    let more =
    front_more c.args.digits.now c.loop-digit.digit-index c.requires.digits (omega arith) in
    search rules
