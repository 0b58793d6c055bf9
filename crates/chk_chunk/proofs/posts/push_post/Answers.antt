use Rattle.std.proofs.Common.{length, ◌++◌}
use Rattle.chk_bytes.specs.Numbers.{be32}
use Rattle.chk_chunk.proofs.PostWriting.{post_more}
use Rattle.chk_chunk.proofs.posts.push_post.Goals as goal

pub loop-chunk-preserved : goal.loop-chunk-preserved
loop-chunk-preserved c =
    let l = c.loop-chunk in
    post_more c.args.chunks.now l.chunk-index c.chunk-item.result (c.args.out.now ++ be32 (length c.args.chunks.now)) l.out _
    c.loop-chunk-test.true c.chunk-item.is l.invariant c.in_ok-push_chunk.ensures.ok
