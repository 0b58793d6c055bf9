use Rattle.std.proofs.lemmas.Result.{on_ok_weaker, on_err_weaker}
use Rattle.chk_chunk.specs.Keys.{key_1}
use Rattle.chk_chunk.proofs.Appended.{three_parts, kept_below}
use Rattle.chk_chunk.proofs.keys.push_key_1.Goals as goal

pub returns-clause-ok : goal.returns-clause-ok
unfolding key_1
returns-clause-ok c =
    on_ok_weaker c.push_stream.result
    (three_parts _ _ _ _ _ _ _ c.in_ok-push_all.ensures.ok c.in_ok-put_u64.ensures.ok)
    c.push_stream.ensures.ok

pub returns-clause-err : goal.returns-clause-err
returns-clause-err c =
    on_err_weaker c.push_stream.result
    (λ q. kept_below _ _ _ _ c.in_ok-push_all.ensures.ok (kept_below _ _ _ _ c.in_ok-put_u64.ensures.ok q))
    c.push_stream.ensures.err
