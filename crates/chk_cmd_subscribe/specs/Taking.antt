-- What a process has taken of a message by its own calls.
use Rattle.std.specs.Prelude.{◌≡◌, ℕ, ◌&&◌, ◌==◌, List, [], ◌∷◌, ◌++◌, Option, Some, None, if◌then◌else◌}
use Rattle.std.specs.Option.{option_map}
use Rattle.chk_site.specs.declared.acts.ActAnswer.{ActAnswer}
use Rattle.chk_site.specs.declared.acts.ActAnswer.TheVariants.{Done}
use Rattle.chk_site.specs.declared.acts.Who.{Who}
use Rattle.chk_site.specs.Acts.{Deed, Takes, TakesMore, deed}
use Rattle.chk_site.specs.History.{History, Ever, is_by}
use Rattle.chk_tee.specs.Messages.{Teed, IsTee}

-- what has come of the taking t, after a call: its first piece, or a further one behind what had
-- come
abbrev pub taken_in : ℕ → Deed → ActAnswer → Option (List ℕ) → Option (List ℕ)
taken_in t (Takes door wait) (Done (bytes ∷ words) number of) before =
    if t == number then Some bytes else before
taken_in t (TakesMore n) (Done (bytes ∷ words) number of) before =
    if t == n then option_map (λ b. b ++ bytes) before else before
taken_in t call answer before = before

-- what has come of the taking t by the process's own calls
abbrev pub taken_by : Who → ℕ → History → Option (List ℕ)
taken_by who t [] = None
taken_by who t (step ∷ history) =
    if step.own && is_by who step
    then taken_in t (deed step.act) step.act.answer (taken_by who t history)
    else taken_by who t history

-- at some moment these bytes had come of a message that the process took
abbrev pub HasTaken : Who → List ℕ → History → Type 0
HasTaken who bytes history = (t : ℕ) × Ever (λ front. taken_by who t front ≡ Some bytes) history

-- the chunks are those of a message that the process took
pub record IsTaken (who : Who) (items : List Teed) (history : History) : Type 0 where
  pub bytes : List ℕ
  pub tee : IsTee items bytes
  pub came : HasTaken who bytes history

-- the same of each of these
abbrev pub AreTaken : Who → List (List Teed) → History → Type 0
AreTaken who [] history = Unit {0}
AreTaken who (items ∷ messages) history = IsTaken who items history × AreTaken who messages history

-- the chunks of these messages, one message after the other
abbrev pub all_chunks : List (List Teed) → List Teed
all_chunks [] = []
all_chunks (items ∷ messages) = items ++ all_chunks messages
