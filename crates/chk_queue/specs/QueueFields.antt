-- What the fields of a queue stand for.
use Rattle.std.specs.Prelude.{◌≡◌, ◌≤◌, length, drop}
use Rattle.chk_queue.specs.Queues.{Waiting, data_size}
use Rattle.chk_queue.specs.declared.Queue.TheInside.{Inside}

abbrev pub queue_view : Inside → Waiting
queue_view q = record { limit = q.limit; chunks = drop q.first q.chunks.items }

-- the dropped chunks stand first, and the others have so much data, which doesn't pass the limit
pub record IsSoundQueue (q : Inside) : Type 0 where
  pub within : q.first ≤ length q.chunks.items
  pub sum : q.used ≡ data_size (drop q.first q.chunks.items)
  pub room : q.used ≤ q.limit
