-- Which keys are kept.
use Rattle.std.specs.Prelude.{◌≡◌, ℕ, List}
use Rattle.chk_chunk.specs.Keys.{Key, IsKey}
use Rattle.chk_record_index.specs.declared.origins.Origin.{Origin}
use Rattle.chk_record_index.specs.declared.recent.Recent.{Recent}
use Rattle.chk_record_index.specs.declared.recents.Recents.{Recents}
use Rattle.chk_record_index.specs.HeadRows.{HasOrigin, AreKept}

-- these bytes are the recent key, with this start and this number of its origin
pub record IsSet (r : Recent) (key : List ℕ) (start origin : ℕ) : Type 0 where
  pub key_is : r.key ≡ key
  pub start_is : r.start ≡ start
  pub origin_is : r.origin ≡ origin

-- the kept keys are still keys of the origins
abbrev pub StayKept : Recents → Recents → Type 0
StayKept old new = (origins : List Origin) → AreKept origins old → AreKept origins new

-- and so they are where these bytes are a key with this start, whose origin has this number
abbrev pub KeepKey : Recents → Recents → List ℕ → ℕ → ℕ → Type 0
KeepKey old new bytes start n =
    (origins : List Origin) (k : Key) → IsKey k bytes → k.start ≡ start → HasOrigin origins n k → AreKept origins old
    → AreKept origins new
