use Rattle.std.proofs.Common.{arith}
use Rattle.chk_bytes.specs.Numbers.{spelled_at}
use Rattle.chk_chunk.specs.Posts.{guessed_chunks}
use Rattle.chk_chunk.proofs.PostGrammar.{post_read, post_from_faultless}
use Rattle.chk_chunk.proofs.laws.post_grammar.Goals as goal

pub returns : goal.returns
returns c =
    let body = c.args.body.now in (
      λ fine. (
        guessed_chunks (spelled_at 0 4 body) 4 body,
        post_from_faultless body (λ i. omega (arith, c.type_inv.body i)) fine,
      ),
      λ post. (post_read body post.0 post.1).fine,
    )
