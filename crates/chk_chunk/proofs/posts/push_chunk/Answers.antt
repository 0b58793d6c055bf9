use Rattle.std.proofs.Common.{◌++◌, refl, ap, ◌∙◌}
use Rattle.std.proofs.lemmas.Result.{on_ok_weaker, on_err_weaker}
use Rattle.chk_chunk.specs.Posts.{written_part}
use Rattle.chk_chunk.specs.Lent.{lent_chunk}
use Rattle.chk_chunk.proofs.Appended.{kept_below, unchanged}
use Rattle.chk_chunk.proofs.PostWriting.{written_part-pieces}
use Rattle.chk_chunk.proofs.posts.push_chunk.Goals as goal

pub returns-clause-ok : goal.returns-clause-ok
returns-clause-ok c =
    on_ok_weaker c.push_all.result
    (λ last.
    written_part-pieces (lent_chunk c.lend-lent.result) c.args.out.now _ _ _ _ _ _
    c.key_size.ensures.size
    refl
    c.in_ok-put_u32.ensures.ok
    c.in_ok-write_key.ensures.ok
    c.in_ok-put_u32-2.ensures.ok
    last
    ∙ ap (λ d. c.args.out.now ++ written_part d) c.lend-lent.ensures.chunk)
    c.push_all.ensures.ok

pub returns-clause-err : goal.returns-clause-err
returns-clause-err c =
    on_err_weaker c.push_all.result
    (λ q. kept_below _ _ _ _ c.in_ok-put_u32.ensures.ok
    (kept_below _ _ _ _ c.in_ok-write_key.ensures.ok
    (kept_below _ _ _ _ c.in_ok-put_u32-2.ensures.ok (unchanged _ _ q))))
    c.push_all.ensures.err
