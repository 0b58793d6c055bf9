use Rattle.std.proofs.Common.{◌+◌, ◌∙◌, ap, arith}
use Rattle.chk_chunk.proofs.PostWriting.{size_more, item_small}
use Rattle.chk_chunk.proofs.posts.post_size.Goals as goal

pub overflow_add-size : goal.overflow_add-size
overflow_add-size c =
    let l = c.loop-chunk in
    let small = item_small c.args.chunks.now l.chunk-index c.chunk-item.result c.requires.valid c.loop-chunk-test.true c.chunk-item.is in
    let size = c.chunk_size-size.ensures in
    omega arith

pub loop-chunk-preserved : goal.loop-chunk-preserved
loop-chunk-preserved c =
    let l = c.loop-chunk in
    let chunk = c.chunk-item.result in
    let small = item_small c.args.chunks.now l.chunk-index chunk c.requires.valid c.loop-chunk-test.true c.chunk-item.is in
    let size = c.chunk_size-size.ensures in
    record {
      size =
          ap (λ n. l.size + n) size
          ∙ size_more c.args.chunks.now l.chunk-index l.size chunk c.loop-chunk-test.true c.chunk-item.is l.invariant.size;
      small = omega arith;
    }
