use Rattle.std.proofs.Common.{◌∙◌}
use Rattle.chk_chunk.specs.Lent.{lent_chunk}
use Rattle.chk_record_index.proofs.LastKeys.{spelled_again}
use Rattle.chk_record_index.proofs.last_key.LastKey.write.Goals as goal

pub returns-then-is_but_seq-clause-key : goal.returns-then-is_but_seq-clause-key
returns-then-is_but_seq-clause-key c =
    c.set_seq.ensures
    ∙ spelled_again (lent_chunk c.args.chunk.now).key c.args.self.now (c.is_but_seq.ensures.0 c.if-is_but_seq.true)
