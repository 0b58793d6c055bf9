use Rattle.std.proofs.Common.{◌≡◌, ◌≤◌, ◌+◌, ◌*◌, length, take}
use Rattle.chk_chunk.specs.Posts.{written_parts}
use Rattle.chk_chunk.specs.Lent.{chunks_of}
use Rattle.chk_chunk.proofs.posts.post_size.Given as goal

abbrev pub invariant-loop-chunk : goal.invariant-loop-chunk
invariant-loop-chunk l = record {
  size : l.size ≡ 4 + length (written_parts (chunks_of (take l.chunk-index l.chunks)));
  small : l.size ≤ 4 + l.chunk-index * 147489;
}
