-- The numbers of messages and takings.
use Rattle.std.specs.Prelude.{◌≡◌, ℕ, ◌<◌, nat_lt, ◌∷◌, None, if◌then◌else◌}
use Rattle.chk_site.specs.declared.acts.ActAnswer.{ActAnswer}
use Rattle.chk_site.specs.declared.acts.ActAnswer.TheVariants.{Done}
use Rattle.chk_site.specs.Acts.{Deed, Sends, Takes}
use Rattle.chk_site.specs.History.{History}
use Rattle.chk_site.specs.Messages.{message, taken}

-- the greater of two numbers
abbrev pub greater : ℕ → ℕ → ℕ
greater a b = if nat_lt a b then b else a

-- the greatest number of a message, after this call
abbrev pub last_message : Deed → ℕ → ℕ
last_message (Sends n address bytes) last = greater last n
last_message call last = last

-- the greatest number of a taking, after an act with this answer
abbrev pub last_taking : Deed → ActAnswer → ℕ → ℕ
last_taking (Takes door wait) (Done (bytes ∷ words) number of) last = greater last number
last_taking call answer last = last

-- no message has a number above the one, and no taking above the other
pub record IsNumbered (history : History) (messages takings : ℕ) : Type 0 where
  pub sent : (n : ℕ) → messages < n → message history n ≡ None
  pub takes : (n : ℕ) → takings < n → taken history n ≡ None
