-- What the inspections of `status` have seen.
use Rattle.std.specs.Prelude.{◌≡◌, ℕ, ◌==◌, max, List, [], ◌∷◌, ◌++◌, length, flat_map, fold, if◌then◌else◌}
use Rattle.std.specs.Borrow.{Bor}
use Rattle.chk_ctl_status.specs.Doors.{has_trouble as is_silent}
use Rattle.chk_ctl_status.specs.Stores.{has_trouble}
use Rattle.chk_ctl_metrics.specs.declared.agents.NamedAgents.{NamedAgents}
use Rattle.chk_ctl_metrics.specs.declared.beside.NamedDoor.{NamedDoor}
use Rattle.chk_ctl_metrics.specs.declared.families.NamedStore.{NamedStore}
use Rattle.chk_ctl_inspect.specs.declared.kept.Seen.{Seen}
use Rattle.chk_ctl_inspect.specs.declared.kept.Seen.TheVariants.{Agents, Store, Absent, Door, Failed, Nothing}
use Rattle.chk_ctl_inspect.specs.declared.kept.Sight.{Sight}

-- by kind
abbrev pub agents_of : Seen → List NamedAgents
agents_of (Agents n) = n ∷ []
agents_of seen = []

abbrev pub stores_of : Seen → List NamedStore
stores_of (Store n) = n ∷ []
stores_of seen = []

abbrev pub absent_of : Seen → List (Bor (List ℕ))
absent_of (Absent folder) = folder ∷ []
absent_of seen = []

abbrev pub doors_of : Seen → List NamedDoor
doors_of (Door n) = n ∷ []
doors_of seen = []

-- 0, or 1 if there is trouble, or how it failed
abbrev pub status_of : Seen → ℕ
status_of (Agents n) = if length n.agents.items == 0 then 1 else 0
status_of (Store n) = if has_trouble n.seen then 1 else 0
status_of (Absent folder) = 1
status_of (Door n) = if is_silent n.door then 1 else 0
status_of (Failed status) = status
status_of Nothing = 0

-- the greatest status of these, and of one before
abbrev pub greatest : ℕ → List Seen → ℕ
greatest status seen = fold (λ most s. max most (status_of s)) status seen

-- these were kept behind the others
pub record Keeps (old : Sight) (seen : List Seen) (new : Sight) : Type 0 where
  pub agents : new.agents.items ≡ old.agents.items ++ flat_map agents_of seen
  pub stores : new.stores.items ≡ old.stores.items ++ flat_map stores_of seen
  pub absent : new.absent.items ≡ old.absent.items ++ flat_map absent_of seen
  pub doors : new.doors.items ≡ old.doors.items ++ flat_map doors_of seen
  pub status : new.status ≡ greatest old.status seen

-- nothing was seen yet
pub record IsEmpty (s : Sight) : Type 0 where
  pub agents : s.agents.items ≡ []
  pub stores : s.stores.items ≡ []
  pub absent : s.absent.items ≡ []
  pub doors : s.doors.items ≡ []
  pub status : s.status ≡ 0
