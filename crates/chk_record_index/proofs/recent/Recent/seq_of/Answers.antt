use Rattle.std.proofs.Common.{arith}
use Rattle.chk_record_index.proofs.KeptKeys.{is_next}
use Rattle.chk_record_index.proofs.recent.Recent.seq_of.Goals as goal

pub returns : goal.returns
returns c =
    is_next c.args.self.now c.args.key.now c.in_ok-seq.seq
    (rw c.as_slice.ensures at (c.are_alike.ensures c.if-not-are_alike.false))
    (λ i. omega (arith, c.type_inv.key i)) c.in_ok-seq.ensures.1 c.if-seq-self.false c.if-seq.false
