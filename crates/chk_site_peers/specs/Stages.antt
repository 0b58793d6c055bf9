-- The peers of a door: who is served next, and who is let go.
use Rattle.std.specs.Prelude.{◌≡◌, ◌⊎◌, ◌↔◌, ℕ, Bool, true, false, ◌||◌, Option, Some, None, List, [], position, slice_get, remove}
use Rattle.chk_http.specs.Requests.{IsNotYet}
use Rattle.chk_site_peers.specs.declared.stages.Stage.{Stage}
use Rattle.chk_site_peers.specs.declared.stages.Stage.TheVariants.{Silent, Begun, Whole, Stale, Ended, Gone}

-- no byte came yet
abbrev pub silent_at : Stage → Bool
silent_at Silent = true
silent_at Begun = false
silent_at Whole = false
silent_at Stale = false
silent_at Ended = false
silent_at Gone = false

-- more of the message is wanted
abbrev pub open_at : Stage → Bool
open_at Silent = true
open_at Begun = true
open_at Whole = false
open_at Stale = false
open_at Ended = false
open_at Gone = false

-- the message is whole, the peer is there, and its last byte came not long ago
abbrev pub whole_at : Stage → Bool
whole_at Silent = false
whole_at Begun = false
whole_at Whole = true
whole_at Stale = false
whole_at Ended = false
whole_at Gone = false

-- the same, but its sender waits no longer soon
abbrev pub stale_at : Stage → Bool
stale_at Silent = false
stale_at Begun = false
stale_at Whole = false
stale_at Stale = true
stale_at Ended = false
stale_at Gone = false

-- the message is whole, and the peer is there
abbrev pub there_at : Stage → Bool
there_at stage = whole_at stage || stale_at stage

-- bytes came, and nothing more comes
abbrev pub ended_at : Stage → Bool
ended_at Silent = false
ended_at Begun = false
ended_at Whole = false
ended_at Stale = false
ended_at Ended = true
ended_at Gone = false

-- there is nothing to serve
abbrev pub gone_at : Stage → Bool
gone_at Silent = false
gone_at Begun = false
gone_at Whole = false
gone_at Stale = false
gone_at Ended = false
gone_at Gone = true

-- the first of the two that is there
abbrev pub first_or : Option ℕ → Option ℕ → Option ℕ
first_or (Some place) other = Some place
first_or None other = other

-- the oldest whole one is served next; where there is none, the oldest stale one, and behind those the oldest
-- one that ended
abbrev pub next_of : List Stage → Option ℕ
next_of stages =
    first_or (position whole_at stages)
    (first_or (position stale_at stages) (position ended_at stages))

-- the oldest silent one goes, and where there is none the oldest one that ended
abbrev pub leaving : List Stage → Option ℕ
leaving stages = first_or (position silent_at stages) (position ended_at stages)

-- the peer at this place was taken out
abbrev pub IsTaken : List Stage → List Stage → ℕ → Stage → Type 0
IsTaken old new place stage = (slice_get old place ≡ Some stage) × (new ≡ remove old place)

-- the stage of a peer that is there, by what it sent so far: silent without a byte, begun as long as a request isn't
-- whole, else whole
pub record IsStageOf (bytes : List ℕ) (stage : Stage) : Type 0 where
  pub silent : (stage ≡ Silent) ↔ (bytes ≡ [])
  pub begun : stage ≡ Begun → IsNotYet bytes
  pub only : (stage ≡ Silent) ⊎ ((stage ≡ Begun) ⊎ (stage ≡ Whole))
