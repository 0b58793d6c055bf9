-- What the question for a committed length leads to.
use Rattle.std.specs.Prelude.{◌≡◌, ℕ, ◌≤◌, Bool, true, ◌&&◌, List, [], ◌∷◌, ◌++◌, Result, Ok, Err}
use Rattle.chk_bytes.specs.Stems.{Stem}
use Rattle.chk_site.specs.declared.acts.Who.{Who}
use Rattle.chk_site.specs.History.{History, files_after}
use Rattle.chk_site.specs.Runs.{Since}
use Rattle.chk_http_grammar.specs.Messages.{Ack, ack_of}
use Rattle.chk_world.specs.Committed.{committed_length}
use Rattle.chk_world.specs.Collectors.{Handling, CommittedLengths, leaves_sink}
use Rattle.chk_world.specs.Places.{AtTold}
use Rattle.chk_sink.specs.declared.fault.SinkFault.{SinkFault}
use Rattle.chk_sink.specs.declared.fault.SinkFault.TheVariants.{Damaged, Spent}
use Rattle.chk_sink.specs.States.{State, process}
use Rattle.chk_sink.specs.Held.{Handles}

-- the history holds the sinks and these messages, and since the taking t these stems have these committed lengths
pub record Counts (s : State) (handled : List Handling) (t : ℕ) (stems : List Stem) (acks : List Ack)
    (history : History) : Type 0 where
  pub handles : Handles s handled history
  pub lengths : CommittedLengths (process s) history t stems acks

-- the same of a told history
abbrev pub Counted : List (List ℕ) → State → List Handling → ℕ → List Stem → List Ack → History → Type 0
Counted stamped s handled t stems acks history = AtTold stamped (process s) (Counts s handled t stems acks) history

-- one more stem has this length, which is at most the one that is committed now
pub record CountsNow (s : State) (handled : List Handling) (t : ℕ) (stems : List Stem) (acks : List Ack) (x : Stem) (n : ℕ)
    (history : History) : Type 0 where
  pub counts : Counts s handled t (stems ++ x ∷ []) (acks ++ ack_of x n ∷ []) history
  pub most : n ≤ committed_length (files_after history) x

-- one more stem has its committed length, or the call failed or wanted memory; nothing is ever damaged
abbrev pub CountsOn : State → List Handling → ℕ → List Stem → List Ack → Stem → Result ℕ SinkFault → History → Type 0
CountsOn s handled t stems acks x (Ok n) history = CountsNow s handled t stems acks x n history
CountsOn s handled t stems acks x (Err (Damaged name at)) history = ⊥
CountsOn s handled t stems acks x (Err fault) history = Handles s handled history

-- the same of a told history
abbrev pub CountedOn : List (List ℕ) → State → List Handling → ℕ → List Stem → List Ack → Stem → Result ℕ SinkFault
    → History → Type 0
CountedOn stamped s handled t stems acks x result history =
    AtTold stamped (process s) (CountsOn s handled t stems acks x result) history

-- a question finds no number spent
abbrev pub IsOfQuestion : SinkFault → Type 0
IsOfQuestion (Spent number) = ⊥
IsOfQuestion fault = Unit {0}

-- the steps leave the sink alone: others name none of its files, and the process itself changes none
abbrev pub all_leave : Who → Stem → History → Bool
all_leave who x [] = true
all_leave who x (step ∷ added) = leaves_sink who x step && all_leave who x added

-- the history goes on from an earlier one, and where the steps since then leave the sink alone, P holds of it
abbrev pub QuietSince : Who → Stem → History → (History → Type 0) → History → Type 0
QuietSince who x earlier P history = Since earlier (λ added. all_leave who x added ≡ true → P history) history

-- where they do, the sink has this committed length
abbrev pub ExactSince : List (List ℕ) → State → History → Stem → ℕ → History → Type 0
ExactSince stamped s earlier x n history =
    AtTold stamped (process s) (QuietSince (process s) x earlier (λ h. n ≡ committed_length (files_after h) x)) history

-- the told history is this one
abbrev pub IsToldAt : List (List ℕ) → State → History → History → Type 0
IsToldAt stamped s earlier history = AtTold stamped (process s) (λ h. h ≡ earlier) history
