use Rattle.std.proofs.Common.{arith}
use Rattle.chk_chunk.specs.Lent.{lent_key}
use Rattle.chk_chunk.proofs.KeyReading.{answers_keys, answers_every_key}
use Rattle.chk_chunk.proofs.keys.read_key.Goals as goal

pub returns-clause-key : goal.returns-clause-key
returns-clause-key c =
    answers_keys lent_key c.key_at.result c.args.bytes.now
    (λ i. omega (arith, c.type_inv.bytes i)) c.key_at.ensures.fine c.key_at.ensures.key

pub returns-clause-every_key : goal.returns-clause-every_key
returns-clause-every_key c =
    answers_every_key lent_key c.key_at.result c.args.bytes.now c.key_at.ensures.fault c.key_at.ensures.key
