use Rattle.chk_chunk.specs.Lent.{lent_chunk}
use Rattle.chk_record_index.specs.LastKeys.{key_tail}
use Rattle.chk_record_index.proofs.PassedTails.{not_it}
use Rattle.chk_record_index.proofs.tails.is_tail.Goals as goal

pub returns-in-None : goal.returns-in-None
returns-in-None c =
    let tail = key_tail (lent_chunk c.args.chunk.now).key in
    ((λ no. absurd (cc)), λ same. absurd (not_it tail c.args.bytes.now c.in-None.ensures same))
