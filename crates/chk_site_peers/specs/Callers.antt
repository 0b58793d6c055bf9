-- What one look at a stream gave, and what is known of its peer then.
use Rattle.std.specs.Prelude.{◌≡◌, ◌⊎◌, ◌<◌, ◌≤◌, ◌++◌, ℕ, List, Option, length, take}
use Rattle.std.specs.Io.KnownBytes.{Consumes}
use Rattle.chk_site_peers.specs.declared.stages.Stage.{Stage}
use Rattle.chk_site_peers.specs.declared.stages.Stage.TheVariants.{Ended, Gone}
use Rattle.chk_site_peers.specs.Stages.{IsStageOf}
use Rattle.chk_site_peers.specs.declared.callers.Heard.{Heard}
use Rattle.chk_site_peers.specs.declared.callers.Heard.TheVariants.{Nothing, Some, End, Broken}

-- how many bytes came
abbrev pub count_of : Heard → ℕ
count_of Nothing = 0
count_of (Some count) = count
count_of End = 0
count_of Broken = 0

-- the message grew by the front of what was read, and that is what the stream gave
pub record HasGrown (before after : Option (List ℕ)) (old new buffer : List ℕ) : Type 0 where
  pub count : ℕ
  pub within : count ≤ length buffer
  pub grown : new ≡ old ++ take count buffer
  pub given : Consumes before after (take count buffer)

-- nothing more comes: there is something to serve where bytes came before
abbrev pub IsEnd : List ℕ → Stage → Type 0
IsEnd bytes stage =
    ((length bytes ≡ 0) × (stage ≡ Gone)) ⊎ ((0 < length bytes) × (stage ≡ Ended))

-- the stage behind a look at a peer of that stage: where bytes came it is theirs, else the same as before, or nothing
-- more comes, or the peer is gone
abbrev pub IsHeard : Stage → List ℕ → List ℕ → Stage → Type 0
IsHeard stage old new heard =
    IsStageOf new heard
    ⊎ ((new ≡ old) × ((heard ≡ stage) ⊎ (IsEnd new heard ⊎ (heard ≡ Gone))))
