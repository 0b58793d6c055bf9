-- Which streams are live behind a round.
use Rattle.std.specs.Prelude.{◌≡◌, ℕ, false, List, ◌++◌}
use Rattle.chk_site.specs.declared.acts.Who.{Who}
use Rattle.chk_site.specs.History.{History, Others, files_after, is_stopped}
use Rattle.chk_site.specs.Runs.{HasStarted}
use Rattle.chk_world.specs.Checkpoints.{checkpoint_lines}
use Rattle.chk_world.specs.Knowing.{agent}
use Rattle.chk_world.specs.Rules.{Legal}
use Rattle.chk_world.specs.Together.{Outside}
use Rattle.chk_round.specs.Following.{KeepsLive}

-- The agent of this source was started in these steps. Each stream that had a live line in the
-- checkpoint behind the start has one now, and no further one has but those of the words.
pub record StaysLive (source kind : List ℕ) (logs : List (List ℕ)) (added history : History)
    : Type 0 where
  pub later : History
  pub start : History
  pub first : History
  pub split : added ≡ later ++ (start ++ first)
  pub started : HasStarted (agent source) start (first ++ history)
  pub live : KeepsLive kind logs
      (checkpoint_lines (files_after (start ++ (first ++ history))) source)
      (checkpoint_lines (files_after (added ++ history)) source)

-- so it is from a legal history on, beside others that obey, where the site wasn't stopped
abbrev pub StaysTo : List (List ℕ) → List Who → List ℕ → List ℕ → List (List ℕ) → History
    → History → Type 0
StaysTo stamped started source kind logs added history =
    Others (Outside stamped started) added history → Legal stamped history
    → is_stopped (added ++ history) ≡ false → StaysLive source kind logs added history
