use Rattle.std.proofs.Common.{arith}
use Rattle.chk_chunk.specs.Lent.{lent_key}
use Rattle.chk_chunk.proofs.PostGrammar.{start_below}
use Rattle.chk_chunk.proofs.posts.chunk_at.Goals as goal

pub value_field_at-requires : goal.value_field_at-requires
value_field_at-requires c =
    let found = c.in_ok-key.ensures.key in
    omega (arith, start_below c.args.at c.args.body.now (lent_key c.in_ok-key.key) found.fine found.is)
