-- Which texts name a control door.
use Rattle.std.specs.Prelude.{ℕ, ◌&&◌, ◌==◌, Bool, true, List, if◌then◌else◌, is_some}
use Rattle.std.specs.Prelude.{Option, Some, None}
use Rattle.std.specs.List.{after_first, before_first, list_all}
use Rattle.chk_bytes.specs.Words.{is_word}
use Rattle.chk_ctl_line.specs.declared.controls.ControlWords.{ControlWords}

-- a control door: what it is called, and its address
pub record Control : Type 0 where
  pub name : List ℕ
  pub address : List ℕ

-- the texts that borrowed words lend
abbrev pub control_of : ControlWords → Control
control_of w = record { name = w.name.now; address = w.address.now }

-- both are words
abbrev pub control_by : List ℕ → List ℕ → Option Control
control_by name address =
    if is_word address && is_word name then Some (record { name = name; address = address })
    else None

-- the first = (61) stands between them; behind a text without one stands nothing, which is no word
abbrev pub control_in : List ℕ → Option Control
control_in text = control_by (before_first (λ b. b == 61) text) (after_first (λ b. b == 61) text)

abbrev pub is_control : List ℕ → Bool
is_control text = is_some (control_in text)

-- each of them is one
abbrev pub are_controls : Option (List (List ℕ)) → Bool
are_controls None = true
are_controls (Some texts) = list_all is_control texts
