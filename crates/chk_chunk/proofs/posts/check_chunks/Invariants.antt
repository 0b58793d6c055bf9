use Rattle.std.proofs.Common.{◌≡◌, ◌-◌}
use Rattle.chk_chunk.specs.Faults.{chunks_fault}
use Rattle.chk_chunk.proofs.posts.check_chunks.Given as goal

-- what is wrong from here on is what is wrong
abbrev pub invariant-loop-done : goal.invariant-loop-done
invariant-loop-done l = chunks_fault (l.count - l._done) l.at l.body ≡ chunks_fault l.count 4 l.body
