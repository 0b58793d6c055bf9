use Rattle.std.proofs.Common.{arith}
use Rattle.chk_bytes.specs.Numbers.{spelled_at}
use Rattle.chk_tee.specs.Messages.{guessed_teeds}
use Rattle.chk_tee.proofs.MessageGrammar.{tee_read, tee_from_faultless}
use Rattle.chk_tee.proofs.laws.tee_grammar.Goals as goal

pub returns : goal.returns
returns c =
    let bytes = c.args.bytes.now in (
      λ fine. (
        guessed_teeds (spelled_at 5 4 bytes) 9 bytes,
        tee_from_faultless bytes (λ i. omega (arith, c.type_inv.bytes i)) fine,
      ),
      λ tee. (tee_read bytes tee.0 tee.1).fine (λ i. omega (arith, c.type_inv.bytes i)),
    )
