use Rattle.std.proofs.Common.{arith}
use Rattle.chk_chunk.specs.Lent.{lent_key}
use Rattle.chk_tee.proofs.MessageGrammar.{teed_found}
use Rattle.chk_tee.proofs.messages.teed_at.Goals as goal

pub returns-clause-teed : goal.returns-clause-teed
returns-clause-teed c =
    teed_found c.args.at c.args.bytes.now _ _ _ (lent_key c.in_ok-key.key) _ _ _ (λ i. omega (arith, c.type_inv.bytes i))
    c.in_ok-stem.ensures.stem c.in_ok-offset.ensures.offset c.in_ok-key.ensures.key c.in_ok-value.ensures.value
