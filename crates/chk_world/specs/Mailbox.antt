-- One message on its way through the mailbox inside a process: it waits, is taken whole, is
-- answered, and its sender gets the answer whole.
use Rattle.std.specs.Prelude.{◌≡◌, ℕ, true, false, List, [], ◌∷◌, Option, Some, None}
use Rattle.std.specs.List.{list_any}
use Rattle.chk_site.specs.declared.acts.Role.TheVariants.{Collector}
use Rattle.chk_site.specs.declared.acts.Who.{Who}
use Rattle.chk_site.specs.History.{History}
use Rattle.chk_site.specs.Messages.{Message, Taken, Reply, self_address, message, taken, replies, waiting}
use Rattle.chk_site.specs.Honest.{is_sure, WholeOfSure}

-- nothing waits in the mailbox for this taker
abbrev pub IsEmptyFor : Who → History → Type 0
IsEmptyFor taker history = waiting taker history ≡ []

-- the collector's taking at the mailbox is one of this message
pub record IsTakingOf (m : ℕ) (k : Taken) : Type 0 where
  pub collector : k.taker.role ≡ Collector
  pub message : k.of ≡ m
  pub inside : k.door ≡ self_address

-- the message of these bytes waits alone, and nobody has taken it from the mailbox
pub record Waits (taker : Who) (m : ℕ) (bytes : List ℕ) (history : History) : Type 0 where
  pub alone : waiting taker history ≡ m ∷ []
  pub sent : Message
  pub is_sent : message history m ≡ Some sent
  pub same : sent.bytes ≡ bytes
  pub untaken : (u : ℕ) (k : Taken) → taken history u ≡ Some k → IsTakingOf m k → ⊥
  pub unsure : list_any is_sure (replies history m) ≡ false

-- none of these answers is sure, or all sure ones are this answer
abbrev pub AreSurely : Option (List ℕ) → List Reply → Type 0
AreSurely None rs = list_any is_sure rs ≡ false
AreSurely (Some reply) rs = (list_any is_sure rs ≡ true) × ((bytes : List ℕ) → WholeOfSure rs bytes → bytes ≡ reply)

-- it was taken once, and has this answer or none yet; nothing else waits
pub record IsInHand (taker : Who) (m t : ℕ) (answer : Option (List ℕ)) (history : History) : Type 0 where
  pub empty : waiting taker history ≡ []
  pub taking : Taken
  pub is_taken : taken history t ≡ Some taking
  pub by : taking.taker ≡ taker
  pub of : IsTakingOf m taking
  pub only : (u : ℕ) (k : Taken) → taken history u ≡ Some k → IsTakingOf m k → u ≡ t
  pub answers : AreSurely answer (replies history m)
