use Rattle.std.proofs.Common.{arith}
use Rattle.std.proofs.lemmas.Result.{on_ok_weaker, on_err_weaker}
use Rattle.chk_chunk.specs.Keys.{key_2}
use Rattle.chk_chunk.specs.Lent.{lent_chunk}
use Rattle.chk_chunk.proofs.KeyLemmas.{word_fits, key_facts}
use Rattle.chk_chunk.proofs.Appended.{five_parts, kept_below}
use Rattle.chk_chunk.proofs.keys.push_key_2.Goals as goal

pub push_text-requires : goal.push_text-requires
push_text-requires c =
    omega (arith, word_fits _ (key_facts (lent_chunk c.args.chunk.now).key c.requires).cluster)

pub returns-clause-ok : goal.returns-clause-ok
unfolding key_2
returns-clause-ok c =
    on_ok_weaker c.push_text.result
    (five_parts _ _ _ _ _ _ _ _ _ _ _
    c.in_ok-push_all.ensures.ok
    c.in_ok-put_u64.ensures.ok
    c.in_ok-put_u64-2.ensures.ok
    c.in_ok-push_stream.ensures.ok)
    c.push_text.ensures.ok

pub returns-clause-err : goal.returns-clause-err
returns-clause-err c =
    on_err_weaker c.push_text.result
    (λ q. kept_below _ _ _ _ c.in_ok-push_all.ensures.ok
    (kept_below _ _ _ _ c.in_ok-put_u64.ensures.ok
    (kept_below _ _ _ _ c.in_ok-put_u64-2.ensures.ok
    (kept_below _ _ _ _ c.in_ok-push_stream.ensures.ok q))))
    c.push_text.ensures.err
