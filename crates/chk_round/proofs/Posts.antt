-- The posts so far.
use Rattle.std.proofs.Common.{length, ap, arith}
use Rattle.chk_queue.specs.Queues.{Waiting}
use Rattle.chk_agent.specs.States.{State as Agents}
use Rattle.chk_round.specs.Polling.{HasFree, PostedSome}
use Rattle.chk_round.proofs.Joining.{same_then}

-- a post behind room for it
pub posted_then : (a b c : Agents) → HasFree 1 a b → PostedSome b c → PostedSome a c
posted_then a b c free posted =
    let less = posted.fewer in
    let queue = ap (λ (q : Waiting). length q.chunks) free.queue in
    record { same = same_then a b c free.same posted.same; fewer = omega (arith, less, queue) }
