-- What posts and polls leave.
use Rattle.std.specs.Prelude.{◌≡◌, ℕ, ◌<◌, ◌≤◌, [], length}
use Rattle.chk_agent.specs.States.{State}
use Rattle.chk_agent_delivery.specs.States.{free_rows}
use Rattle.chk_agent_drain.specs.Parts.{unmarked_in}
use Rattle.chk_round.specs.Joint.{IsSameAgent}

-- a poll that gave all: fewer rows aren't marked
pub record PolledAll (s t : State) : Type 0 where
  pub same : IsSameAgent s t
  pub queue : t.delivery.queue ≡ s.delivery.queue
  pub fewer : unmarked_in t < unmarked_in s

-- so many rows are free, and the same chunks wait
pub record HasFree (wanted : ℕ) (s t : State) : Type 0 where
  pub same : IsSameAgent s t
  pub queue : t.delivery.queue ≡ s.delivery.queue
  pub free : wanted ≤ free_rows t.delivery

-- fewer chunks wait
pub record PostedSome (s t : State) : Type 0 where
  pub same : IsSameAgent s t
  pub fewer : length t.delivery.queue.chunks < length s.delivery.queue.chunks

-- no chunk waits
pub record PostedAll (s t : State) : Type 0 where
  pub same : IsSameAgent s t
  pub none : t.delivery.queue.chunks ≡ []
