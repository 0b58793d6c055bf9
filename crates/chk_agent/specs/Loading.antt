-- The parts of a start.
use Rattle.std.specs.Prelude.{◌≡◌, ℕ, List, [], length, IsTrue, Some, None, Result, Ok, Err}
use Rattle.std.specs.Prelude.{slice_get, slice_index, Contains}
use Rattle.chk_site.specs.declared.acts.Who.{Who}
use Rattle.chk_site.specs.History.{History}
use Rattle.chk_failover.specs.Turns.{Turns}
use Rattle.chk_checkpoint.specs.declared.Checkpoint.{Checkpoint}
use Rattle.chk_checkpoint.specs.Lines.{lines_of}
use Rattle.chk_world.specs.Checkpoints.{Line, is_line}
use Rattle.chk_world.specs.Rules.{Legal}
use Rattle.chk_world.specs.Places.{AtTold}
use Rattle.chk_world.specs.Knowing.{Told}
use Rattle.chk_agent_delivery.specs.declared.delivery.Rules.{Rules}
use Rattle.chk_agent_delivery.specs.States.{State as Delivery}
use Rattle.chk_agent.specs.declared.answers.AgentFault.{AgentFault}
use Rattle.chk_agent.specs.declared.answers.AgentFault.TheVariants.{Damaged}
pub use Rattle.chk_site.specs.Once.{MadeOnce}

-- after a load: the checkpoint has the lines, and nothing was sent since the start; it is never damaged
abbrev pub Loaded : List (List ℕ) → List ℕ → Who → Result Checkpoint AgentFault → History → Type 0
Loaded stamped cluster who (Ok check) history =
    Told stamped who.name cluster (lines_of check) (λ h. Unit {0}) history
Loaded stamped cluster who (Err (Damaged at)) history = AtTold stamped who (λ front. ⊥) history
Loaded stamped cluster who (Err fault) history = Legal stamped history

-- nothing waits and nothing is out, and so many adaptors are known
pub record IsEmptyFor (ring : Turns) (rules : Rules) (adaptors : ℕ) (d : Delivery) : Type 0 where
  pub rules_are : d.rules ≡ rules
  pub queue_limit : d.queue.limit ≡ rules.queue
  pub queue : d.queue.chunks ≡ []
  pub owners : d.owners ≡ []
  pub rows : d.table.rows ≡ []
  pub room : d.table.room ≡ rules.rows
  pub known : length d.table.committed ≡ adaptors
  pub last : length d.table.last ≡ adaptors
  pub ring_is : d.ring ≡ ring
  pub post : d.post ≡ None
  pub poll : d.poll ≡ None
  pub polled : d.polled ≡ None

-- both ends of an adaptor are at the offset of its line
pub record BeginsAt (d : Delivery) (i : ℕ) (l : Line) : Type 0 where
  pub committed : slice_index d.table.committed i ≡ l.offset
  pub last : slice_index d.table.last i ≡ l.offset

-- these are, and all but the ends is as it was
pub record IsBegun (lines : List Line) (old new : Delivery) : Type 0 where
  pub rest : new ≡ record old { table = new.table }
  pub rows : new.table.rows ≡ []
  pub room : new.table.room ≡ old.table.room
  pub known : length new.table.committed ≡ length old.table.committed
  pub last : length new.table.last ≡ length old.table.last
  pub begins : (i : ℕ) (l : Line) → slice_get lines i ≡ Some l → BeginsAt new i l

abbrev pub AreLines : List Line → Type 0
AreLines lines = (l : Line) → Contains lines l → IsTrue (is_line l)
