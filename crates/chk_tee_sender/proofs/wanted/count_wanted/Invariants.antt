use Rattle.std.proofs.Common.{◌≡◌, ◌+◌, length}
use Rattle.chk_tee.specs.Filters.{passing}
use Rattle.chk_tee_sender.specs.Offers.{items_of}
use Rattle.chk_tee_sender.proofs.WantedLemmas.{rest_of}
use Rattle.chk_tee_sender.proofs.wanted.count_wanted.Given as goal

-- those so far, and those of the rest
abbrev pub invariant-loop-chunk : goal.invariant-loop-chunk
invariant-loop-chunk l = l.count + length (rest_of l.filter l.post.left l.lines) ≡ length (passing l.filter (items_of l.offer))

abbrev pub decreases-loop-chunk : goal.decreases-loop-chunk
decreases-loop-chunk l = length l.post.left
