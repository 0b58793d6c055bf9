-- What the reads of a round lead to.
use Rattle.std.specs.Prelude.{◌≡◌, ◌≢◌, ℕ, true, false, List, ◌++◌, length, slice_get, Some, Result, Ok, Err}
use Rattle.chk_site.specs.declared.acts.Who.{Who}
use Rattle.chk_site.specs.History.{History, Others, is_stopped}
use Rattle.chk_site.specs.Runs.{Leads}
use Rattle.chk_world.specs.Together.{Outside as OutsideOf, Together}
use Rattle.chk_sink.specs.States.{State as Sinks}
use Rattle.chk_agent_adaptor.specs.Adaptors.{Adaptor, is_stepped, stream_at}
use Rattle.chk_agent.specs.Facts.{IsAtWholeEnd}
use Rattle.chk_agent.specs.States.{State as Agents}
use Rattle.chk_agent_drain.specs.Parts.{AdaptorsBut}
use Rattle.chk_round.specs.declared.faults.RoundFault.{RoundFault}
use Rattle.chk_round.specs.declared.faults.RoundFault.TheVariants.{Growing, Shrank, NoMemory}
use Rattle.chk_round.specs.Done.{ReadTo}
use Rattle.chk_round.specs.Joint.{BothAt, GoesOn}

-- the log of this path still grows, or there was no memory to tell it
pub data IsGrowing (path : List ℕ) (reads : ℕ) : RoundFault → Type 0 where
  grows : IsGrowing path reads (Growing path reads)
  untold : IsGrowing path reads NoMemory

-- the log of this path shrank, or there was no memory to tell it
pub data IsShrank (path : List ℕ) (had is : ℕ) : RoundFault → Type 0 where
  shrinks : IsShrank path had is (Shrank path had is)
  untold : IsShrank path had is NoMemory

-- the agent is the same but for what is to be delivered and one adaptor, which is of the same stream
pub record ReadOn (i : ℕ) (s t : Agents) : Type 0 where
  pub source : t.source ≡ s.source
  pub cluster : t.cluster ≡ s.cluster
  pub ready : t.ready ≡ s.ready
  pub addresses : t.delivery.ring.addresses ≡ s.delivery.ring.addresses
  pub adaptors : AdaptorsBut i s t

-- the agent is the same but for what is to be delivered and its adaptors, which are as many
pub record ReadsOn (s t : Agents) : Type 0 where
  pub source : t.source ≡ s.source
  pub cluster : t.cluster ≡ s.cluster
  pub ready : t.ready ≡ s.ready
  pub addresses : t.delivery.ring.addresses ≡ s.delivery.ring.addresses
  pub size : length t.adaptors ≡ length s.adaptors
  pub streams : (i : ℕ) (a b : Adaptor) → slice_get s.adaptors i ≡ Some a → slice_get t.adaptors i ≡ Some b
      → (b.kind ≡ a.kind) × (b.path ≡ a.path)
  -- one that isn't read stays
  pub idle : (i : ℕ) (a b : Adaptor) → slice_get s.adaptors i ≡ Some a → is_stepped a.phase ≡ false
      → slice_get t.adaptors i ≡ Some b → b ≡ a

-- behind the reads of an adaptor that came to an end: it is that of the whole log
abbrev pub AfterReadOut : List (List ℕ) → ℕ → Sinks → Agents → Result (Unit {0}) RoundFault → History → Type 0
AfterReadOut stamped i t b (Ok value) history =
    BothAt stamped t b history × (is_stopped history ≡ false → IsAtWholeEnd b i history)
AfterReadOut stamped i t b (Err fault) history = GoesOn stamped t b (Err fault) history

-- no other adaptor that is read on reads the log of this one
abbrev pub ReadsAlone : ℕ → Adaptor → Agents → Type 0
ReadsAlone i x a =
    (k : ℕ) (z : Adaptor) → k ≢ i → slice_get a.adaptors k ≡ Some z → is_stepped z.phase ≡ true
    → z.path ≡ x.path → ⊥

-- Behind the reads of all adaptors. Each that was read on is read to the end of its whole log by one
-- of these reads, and nothing of its stream was sent past that since.
pub record ReadsAll (stamped : List (List ℕ)) (started acting : List Who) (s : Sinks) (a : Agents) (t : Sinks) (b : Agents)
    (result : Result (Unit {0}) RoundFault) (added history : History) : Type 0 where
  pub leads : Leads (Together stamped started acting) (BothAt stamped s a) (GoesOn stamped t b result) added history
  pub whole : result ≡ Ok tt → Others (OutsideOf stamped started) added history → BothAt stamped s a history
      → is_stopped (added ++ history) ≡ false → (i : ℕ) (x y : Adaptor) → slice_get a.adaptors i ≡ Some x
      → is_stepped x.phase ≡ true → slice_get b.adaptors i ≡ Some y
      → ReadTo (stream_at a.source x) y.read.offset (ReadsAlone i x a) added history
