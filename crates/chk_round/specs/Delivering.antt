-- What a delivery of all leaves.
use Rattle.std.specs.Prelude.{◌≡◌, ℕ, true, false, Some, slice_get}
use Rattle.chk_agent_adaptor.specs.Adaptors.{Adaptor, is_past}
use Rattle.chk_agent.specs.States.{State}
use Rattle.chk_agent_drain.specs.Drains.{AllDelivered}

-- the adaptor is read as far as it was, and lived where it lives
pub record ReadAsFar (a b : Adaptor) : Type 0 where
  pub kind : b.kind ≡ a.kind
  pub path : b.path ≡ a.path
  pub offset : b.read.offset ≡ a.read.offset
  pub lives : is_past b.phase ≡ false → is_past a.phase ≡ false

-- All is delivered: the checkpoint has the end of what was read of each adaptor that isn't past.
pub record Delivered (s t : State) : Type 0 where
  pub source : t.source ≡ s.source
  pub cluster : t.cluster ≡ s.cluster
  pub ready : t.ready ≡ true
  pub delivered : AllDelivered t
  pub adaptors : (i : ℕ) (b : Adaptor) → slice_get t.adaptors i ≡ Some b
      → (a : Adaptor) × (slice_get s.adaptors i ≡ Some a) × ReadAsFar a b
