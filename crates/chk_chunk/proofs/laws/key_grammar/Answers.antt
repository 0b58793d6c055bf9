use Rattle.std.proofs.Common.{arith}
use Rattle.chk_chunk.specs.Keys.{guessed_key}
use Rattle.chk_chunk.proofs.KeyReading.{key_read, key_from_faultless}
use Rattle.chk_chunk.proofs.laws.key_grammar.Goals as goal

pub returns : goal.returns
returns c =
    let bytes = c.args.bytes.now in (
      λ fine. (guessed_key 0 bytes, key_from_faultless 0 bytes (λ i. omega (arith, c.type_inv.bytes i)) fine),
      λ key. (key_read 0 bytes key.0 key.1).fine,
    )
