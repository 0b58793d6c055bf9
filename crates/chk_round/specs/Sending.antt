-- What is sent of a stream, and what of it waits to be sent.
use Rattle.std.specs.Prelude.{◌≡◌, ◌≢◌, ℕ, ◌≤◌, List, IsTrue, Contains, Option, Some, slice_get}
use Rattle.chk_site.specs.declared.acts.Who.{Who}
use Rattle.chk_site.specs.History.{History, Every, Others}
use Rattle.chk_site.specs.Site.{Adds}
use Rattle.chk_chunk.specs.Keys.{Stream, chunk_end, is_of}
use Rattle.chk_chunk.specs.Lent.{chunk_of}
use Rattle.chk_chunk.specs.declared.Chunk.{Chunk}
use Rattle.chk_world.specs.Laws.{agent_of}
use Rattle.chk_world.specs.Rounds.{SendsNonePast}
use Rattle.chk_world.specs.Together.{Outside}
use Rattle.chk_agent_adaptor.specs.Adaptors.{Adaptor, stream_at}
use Rattle.chk_agent.specs.States.{State, process}

-- no added step sends of the stream past this offset
abbrev pub NonePast : Stream → ℕ → History → History → Type 0
NonePast s end = Every (λ before step. SendsNonePast s end step)

-- the same, where others than the processes that a run started act as is supposed of them
abbrev pub SendsBelow : List (List ℕ) → List Who → Stream → ℕ → History → History → Type 0
SendsBelow stamped started s end added history =
    Others (Outside stamped started) added history → NonePast s end added history

-- each chunk of the stream that waits ends at this offset or before it
abbrev pub QueueBelow : Stream → ℕ → State → Type 0
QueueBelow s end a =
    (c : Chunk) → Contains a.delivery.queue.chunks c → IsTrue (is_of s (chunk_of c))
    → chunk_end (chunk_of c) ≤ end

-- ---- what calls send

-- Of each stream whose agent the run started, and of which all that waits ends at an offset or
-- before it, nothing past that is sent, and nothing past it waits then.
abbrev pub SendsOn : State → State → Option History → Option History → Type 0
SendsOn a b old new =
    (stamped : List (List ℕ)) (started : List Who) (s : Stream) (end : ℕ)
    → Contains started (agent_of s) → QueueBelow s end a
    → Adds old new (SendsBelow stamped started s end) × QueueBelow s end b

-- nothing past it is sent
abbrev pub SendsRest : State → Option History → Option History → Type 0
SendsRest a old new =
    (stamped : List (List ℕ)) (started : List Who) (s : Stream) (end : ℕ)
    → Contains started (agent_of s) → QueueBelow s end a
    → Adds old new (SendsBelow stamped started s end)

-- nothing is sent of a stream whose agent the run started
abbrev pub SendsNone : Option History → Option History → Type 0
SendsNone old new =
    (stamped : List (List ℕ)) (started : List Who) (s : Stream) (end : ℕ)
    → Contains started (agent_of s) → Adds old new (SendsBelow stamped started s end)

-- of the stream of each adaptor but this one nothing is sent past where it is read to
abbrev pub SendsOthers : ℕ → State → Option History → Option History → Type 0
SendsOthers i a old new =
    (stamped : List (List ℕ)) (started : List Who) → Contains started (process a)
    → (k : ℕ) (x : Adaptor) → k ≢ i → slice_get a.adaptors k ≡ Some x
    → Adds old new (SendsBelow stamped started (stream_at a.source x) x.read.offset)
