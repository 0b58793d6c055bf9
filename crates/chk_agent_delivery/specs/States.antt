-- What an agent still has to deliver, as contracts see it.
use Rattle.std.specs.Prelude.{ℕ, ◌-◌, List, [], length, Option, slice_index_or}
use Rattle.chk_bytes.specs.Stems.{Stem}
use Rattle.chk_queue.specs.Queues.{Waiting}
use Rattle.chk_acks.specs.Table.{Table}
use Rattle.chk_failover.specs.Turns.{Turns}
use Rattle.chk_agent_delivery.specs.declared.delivery.Rules.{Rules}

-- a post that was sent and not yet answered: its message, and how many chunks of the queue's front it has
pub record Post : Type 0 where
  pub message : ℕ
  pub count : ℕ

-- a poll that was sent and not yet answered: its message, and the sinks that it asks for
pub record Poll : Type 0 where
  pub message : ℕ
  pub stems : List Stem

-- The limits, the chunks that wait with the number of each one's adaptor, the answers, the addresses, the messages
-- that are out, and the moment of the last poll.
pub record State : Type 0 where
  pub rules : Rules
  pub queue : Waiting
  pub owners : List ℕ
  pub table : Table
  pub ring : Turns
  pub post : Option Post
  pub poll : Option Poll
  pub polled : Option ℕ

-- how many more rows there is room for
abbrev pub free_rows : State → ℕ
free_rows s = s.table.room - length s.table.rows

-- the address in use
abbrev pub address_now : Turns → List ℕ
address_now ring = slice_index_or ring.addresses ring.place []
