-- Which lines of a control message end it.
use Rattle.std.specs.Prelude.{◌≡◌, ℕ, ◌<◌, Bool, true, false, List, [], ◌∷◌, ◌++◌, length, take, Ok}
use Rattle.std.specs.List.{list_any}
use Rattle.chk_bytes.specs.Words.{parts_at}
use Rattle.chk_control.specs.declared.commands.Command.TheVariants.{Close, StopAgent}
use Rattle.chk_control.specs.Lines.{Meaning, meaning_of}

-- a line ends its message
abbrev pub closes : Meaning → Bool
closes (Ok Close) = true
closes (Ok StopAgent) = true
closes meaning = false

-- all but the last: of a text's lines those that a newline ends
abbrev pub but_last : List (List ℕ) → List (List ℕ)
but_last [] = []
but_last (line ∷ []) = []
but_last (line ∷ next ∷ lines) = line ∷ but_last (next ∷ lines)

-- a whole line of it ends the message
abbrev pub is_closed_by : List ℕ → Bool
is_closed_by bytes = list_any (λ line. closes (meaning_of line)) (but_last (parts_at 10 bytes))

-- the most bytes that are read of a message
abbrev pub message_limit : ℕ
message_limit = 65536

-- what is read of a message: its first bytes, up to the limit
abbrev pub capped : List ℕ → List ℕ
capped bytes = take message_limit bytes

-- it is read on
pub record IsOpen (bytes : List ℕ) : Type 0 where
  pub unclosed : is_closed_by bytes ≡ false
  pub short : length bytes < message_limit

-- whole lines end at this place, and none of them ends the message, whatever follows
pub record IsPassed (at : ℕ) (bytes : List ℕ) : Type 0 where
  pub front : List ℕ
  pub tail : List ℕ
  pub whole : bytes ≡ front ++ tail
  pub place : length front ≡ at
  pub none : (more : List ℕ) → is_closed_by (front ++ more) ≡ is_closed_by more
