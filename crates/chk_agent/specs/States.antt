-- The state of an agent, as contracts see it.
use Rattle.std.specs.Prelude.{ℕ, zero, suc, ◌-◌, Bool, false, min, List, [], ◌∷◌, ◌++◌, length, map}
use Rattle.std.specs.Prelude.{filter, Option, Some, None, slice_get, slice_index}
use Rattle.chk_site.specs.declared.acts.Role.TheVariants.{Agent}
use Rattle.chk_site.specs.declared.acts.Who.{Who}
use Rattle.chk_chunk.specs.declared.Chunk.{Chunk}
use Rattle.chk_world.specs.Checkpoints.{Line}
use Rattle.chk_agent_adaptor.specs.Adaptors.{Adaptor, is_stepped, stream_at, line_at}
use Rattle.chk_agent_delivery.specs.States.{State as Delivery}
use Rattle.chk_agent_delivery.specs.Basis.{Basis}

-- The source and the cluster, the adaptors in order of adding, the one that was stepped last, what is to be delivered, the
-- lines of the checkpoint as it was last loaded or written, and whether the file is known to have just these.
pub record State : Type 0 where
  pub source : List ℕ
  pub cluster : List ℕ
  pub adaptors : List Adaptor
  pub last : Option ℕ
  pub delivery : Delivery
  pub saved : List Line
  pub ready : Bool

abbrev pub process : State → Who
process s = record { role = Agent; name = s.source }

-- the committed end of an adaptor
abbrev pub committed_at : State → ℕ → ℕ
committed_at s i = slice_index s.delivery.table.committed i

-- the lines of adaptors with these committed ends
abbrev pub lines_at : List Adaptor → List ℕ → List Line
lines_at [] ends = []
lines_at (a ∷ adaptors) [] = line_at 0 a ∷ lines_at adaptors []
lines_at (a ∷ adaptors) (o ∷ ends) = line_at o a ∷ lines_at adaptors ends

-- the lines that would be written now
abbrev pub lines_of : State → List Line
lines_of s = lines_at s.adaptors s.delivery.table.committed

-- the streams of the adaptors, and the lines of the checkpoint
abbrev pub basis_of : State → Basis
basis_of s = record {
  source = s.source;
  cluster = s.cluster;
  streams = map (stream_at s.source) s.adaptors;
  lines = s.saved;
}

-- the chunk of some bytes of an adaptor's log, which end at an offset
abbrev pub chunk_given : State → Adaptor → List ℕ → ℕ → Chunk
chunk_given s a bytes end = record {
  source = s.source;
  kind = a.kind;
  name = a.path;
  start = a.start;
  cluster = s.cluster;
  seq = end;
  body = bytes;
}

-- so many numbers from this one on
abbrev pub from_on : ℕ → ℕ → List ℕ
from_on i zero = []
from_on i (suc n) = i ∷ from_on (suc i) n

-- the adaptors in order, behind the one that was stepped last, and round
abbrev pub fill_order : ℕ → Option ℕ → List ℕ
fill_order count None = from_on 0 count
fill_order count (Some i) = from_on (suc i) (count - suc i) ++ from_on 0 (min count (suc i))

abbrev pub is_read_on : Option Adaptor → Bool
is_read_on None = false
is_read_on (Some a) = is_stepped a.phase

-- those of them that are still read
abbrev pub to_step : State → List ℕ
to_step s = filter (λ i. is_read_on (slice_get s.adaptors i)) (fill_order (length s.adaptors) s.last)
