use Rattle.std.proofs.Common.{◌≡◌, ◌++◌, length, take}
use Rattle.chk_bytes.specs.Numbers.{be32}
use Rattle.chk_chunk.specs.Posts.{written_parts}
use Rattle.chk_chunk.specs.Lent.{chunks_of}
use Rattle.chk_chunk.proofs.posts.push_post.Given as goal

abbrev pub invariant-loop-chunk : goal.invariant-loop-chunk
invariant-loop-chunk l =
    l.out ≡ (l.fn.out ++ be32 (length l.chunks)) ++ written_parts (chunks_of (take l.chunk-index l.chunks))
