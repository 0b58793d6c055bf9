-- The peers that a door holds, and those that go.
use Rattle.std.specs.Prelude.{◌≡◌, ◌⊎◌, ℕ, Bool, not, if◌then◌else◌, Option, Some, None, List, [], ◌∷◌, filter, remove}
use Rattle.chk_site_peers.specs.declared.stages.Stage.{Stage}
use Rattle.chk_site_peers.specs.declared.stages.Stage.TheVariants.{Silent, Begun, Whole, Stale, Ended, Gone}
use Rattle.chk_site_peers.specs.Stages.{gone_at}

-- what is left without the one at this place
abbrev pub without : {X : Type 0} → Option ℕ → List X → List X
without None items = items
without (Some place) items = remove items place

-- a peer that isn't gone
abbrev pub stays : Stage → Bool
stays stage = not (gone_at stage)

-- the stages of those that aren't gone
abbrev pub stages_left : List Stage → List Stage
stages_left stages = filter stays stages

-- those that aren't gone, by their stages
abbrev pub callers_left : {X : Type 0} → List X → List Stage → List X
callers_left [] stages = []
callers_left (c ∷ callers) [] = c ∷ callers
callers_left (c ∷ callers) (s ∷ stages) =
    if gone_at s then callers_left callers stages else c ∷ callers_left callers stages

-- the stage by now: a whole message is stale where its sender waits no longer soon, and one that
-- ended is gone where its time here is over; any other stage stays
abbrev pub IsAged : Stage → Type 0 → Type 0 → Stage → Type 0
IsAged Silent stale late after = after ≡ Silent
IsAged Begun stale late after = after ≡ Begun
IsAged Whole stale late after = (stale × (after ≡ Stale)) ⊎ (¬ stale × (after ≡ Whole))
IsAged Stale stale late after = after ≡ Stale
IsAged Ended stale late after = (late × (after ≡ Gone)) ⊎ (¬ late × (after ≡ Ended))
IsAged Gone stale late after = after ≡ Gone
