use Rattle.std.proofs.Common.{arith}
use Rattle.chk_tee.proofs.MessageGrammar.{tee_read}
use Rattle.chk_cmd_subscribe.proofs.Reading.{short_fits}
use Rattle.chk_cmd_subscribe.proofs.message.is_short.Goals as goal

pub returns-in-Ok-clause-other : goal.returns-in-Ok-clause-other
returns-in-Ok-clause-other c e short =
    let none = (tee_read c.args.bytes.now _ c.in-Ok.ensures.tee).fine (λ i. omega (arith, c.type_inv.bytes i)) in
    let some = short.1 in
    absurd (cc)

pub returns-in-Err-Short-clause-within : goal.returns-in-Err-Short-clause-within
returns-in-Err-Short-clause-within c e = short_fits c.args.bytes.now _ (rw c.in-Err-Short.field-0-is at c.in-Err-Short.ensures.fault)
