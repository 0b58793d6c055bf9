use Rattle.std.proofs.Common.{◌≡◌, ◌+◌, length, take}
use Rattle.chk_chunk.specs.Posts.{written_parts}
use Rattle.chk_chunk.specs.Lent.{chunks_of}
use Rattle.chk_queue.proofs.front_count.Given as goal

-- what is left of the bytes behind the chunks so far
abbrev pub invariant-loop-count : goal.invariant-loop-count
invariant-loop-count l = l.left + (4 + length (written_parts (chunks_of (take l.count l.waiting)))) ≡ l.bytes
