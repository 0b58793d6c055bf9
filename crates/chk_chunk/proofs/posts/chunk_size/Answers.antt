use Rattle.std.proofs.Common.{length, ap, arith}
use Rattle.chk_chunk.specs.Keys.{Chunk, written_key}
use Rattle.chk_chunk.specs.Lent.{chunk_of}
use Rattle.chk_chunk.proofs.PostWriting.{written_part-size}
use Rattle.chk_chunk.proofs.posts.chunk_size.Goals as goal

pub returns : goal.returns
returns c =
    let lent = ap (λ (d : Chunk). length (written_key d.key)) c.lend.ensures.chunk in
    omega (arith, written_part-size (chunk_of c.args.chunk.now), c.key_size.ensures.size, lent)
