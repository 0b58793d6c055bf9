use Rattle.std.proofs.Common.{◌-◌, ◌∙◌, arith}
use Rattle.chk_chunk.proofs.PostGrammar.{chunks_next}
use Rattle.chk_chunk.proofs.posts.check_chunks.Goals as goal

pub loop-done-preserved : goal.loop-done-preserved
loop-done-preserved c =
    let found = c.in_ok-end.ensures.chunk in
    chunks_next (c.args.count - c.loop-done._done) c.loop-done.at _ _ c.args.body.now
    (λ e. omega arith) found.fine (omega arith) found.behind
    ∙ c.loop-done.invariant
