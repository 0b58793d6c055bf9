-- The mailbox inside the process.
use Rattle.std.specs.Prelude.{◌≡◌, ◌≢◌, ◌⊎◌, ◌||◌, ℕ, Bool, false, nat_eq, List, [], ◌∷◌, ◌++◌, Option, Some, None, bytes_eq, codes, is_some, position, remove, slice_get}
use Rattle.std.specs.List.{list_any}
use Rattle.chk_site_sockets.specs.declared.mailbox.Letter.{Letter}
use Rattle.chk_site_sockets.specs.declared.mailbox.Held.{Held}

-- a message, or the answer to one
abbrev pub letter : ℕ → List ℕ → Letter
letter message bytes = record { message = message; bytes = bytes }

-- a message that was taken and has no answer yet
abbrev pub held_at : ℕ → ℕ → Option Held
held_at message taking = Some (record { message = message; taking = taking })

-- the oldest message was taken
abbrev pub TakesOldest : ℕ → List Letter → List Letter → Option Held → List ℕ → Type 0
TakesOldest taking before after held bytes =
    (message : ℕ) × (before ≡ letter message bytes ∷ after) × (held ≡ held_at message taking)

-- the answer is one to this message
abbrev pub is_for : ℕ → Letter → Bool
is_for message letter = nat_eq letter.message message

-- the message was taken and has no answer yet
abbrev pub is_held : ℕ → Option Held → Bool
is_held message None = false
is_held message (Some held) = nat_eq held.message message

-- the message waits, or was taken and has no answer yet
abbrev pub is_known : ℕ → Option Held → List Letter → Bool
is_known message held waiting = is_held message held || list_any (is_for message) waiting

-- the message has an answer, or is known
abbrev pub is_there : ℕ → List Letter → Bool → Bool
is_there message answered known = is_some (position (is_for message) answered) || known

-- the address or the door is the mailbox
abbrev pub is_self : List ℕ → Bool
is_self address = bytes_eq address (codes "self")

-- the first answer to the message has these bytes, and all others are left
pub record IsGot (message : ℕ) (old new : List Letter) (bytes : List ℕ) : Type 0 where
  pub place : ℕ
  pub answer : Letter
  pub first : position (is_for message) old ≡ Some place
  pub there : slice_get old place ≡ Some answer
  pub found : answer.bytes ≡ bytes
  pub left : new ≡ remove old place

-- the first answer to the message is got; no bytes where there is none, and nothing is changed then
abbrev pub Gets : ℕ → List Letter → List Letter → List ℕ → Type 0
Gets message old new bytes =
    IsGot message old new bytes
    ⊎ ((position (is_for message) old ≡ None) × (bytes ≡ []) × (new ≡ old))

-- the taking that is held for its answer was answered, where it is this one
abbrev pub Answers : ℕ → List ℕ → Option Held → List Letter → List Letter → Type 0
Answers taking bytes None before after = after ≡ before
Answers taking bytes (Some held) before after =
    ((held.taking ≡ taking) × (after ≡ before ++ letter held.message bytes ∷ [])) ⊎ ((held.taking ≢ taking) × (after ≡ before))
