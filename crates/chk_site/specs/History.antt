-- The history: a list of steps, the newest first.
use Rattle.std.specs.Prelude.{◌≡◌, ◌⊎◌, ℕ, Bool, true, false, ◌&&◌, List, [], ◌∷◌, ◌++◌, is_some, is_none, if◌then◌else◌}
use Rattle.chk_site.specs.declared.acts.Who.{Who}
use Rattle.chk_site.specs.declared.acts.Act.{Act}
use Rattle.chk_site.specs.Files.{Files, no_files}
use Rattle.chk_site.specs.Logs.{Logs, no_logs}
use Rattle.chk_site.specs.Acts.{Deed, Starts, deed, same_who, is_stop}
use Rattle.chk_site.specs.Effect.{Effect, StaysSmall}

-- an act, and the files and logs after it. `own` says that it was made by a call on the site that tells it, since that was last started
pub record Step : Type 0 where
  pub own : Bool
  pub act : Act
  pub files : Files
  pub logs : Logs

-- the steps, the newest first
abbrev pub History : Type 0
History = List Step

-- the state after the history
abbrev pub files_after : History → Files
files_after [] = no_files
files_after (step ∷ history) = step.files

-- the logs after the history
abbrev pub logs_after : History → Logs
logs_after [] = no_logs
logs_after (step ∷ history) = step.logs

-- the step is by this process
abbrev pub is_by : Who → Step → Bool
is_by who step = same_who who step.act.who

-- the call is a start
abbrev pub is_start : Deed → Bool
is_start Starts = true
is_start call = false

-- the steps of a process after its last start, the newest first
abbrev pub since_start : Who → History → List Step
since_start who [] = []
since_start who (step ∷ history) =
    if is_by who step
    then (if is_start (deed step.act) then [] else step ∷ since_start who history)
    else since_start who history

-- a rename took effect: there was a file, and it is gone from its old name
abbrev pub took_effect : Files → Files → List ℕ → Bool
took_effect before after old = is_some (before old) && is_none (after old)

-- it holds after the history or after a front of it
abbrev pub Ever : (History → Type 0) → History → Type 0
Ever P [] = P []
Ever P (step ∷ history) = P (step ∷ history) ⊎ Ever P history

-- the site's own newest act was a stop
abbrev pub is_stopped : History → Bool
is_stopped [] = false
is_stopped (step ∷ history) = elim step.own [ true ↦ is_stop step.act.answer | false ↦ is_stopped history ]

-- the file model allows the step after this history
pub record Modelled (history : History) (step : Step) : Type 0 where
  pub effect : Effect (files_after history) (logs_after history) step.act step.files step.logs
  pub small : StaysSmall (deed step.act) step.files step.logs

-- each step of the history is one that the file model allows
abbrev pub AllModelled : History → Type 0
AllModelled [] = Unit {0}
AllModelled (step ∷ history) = AllModelled history × Modelled history step

-- a step that the site didn't make by a call on it; the file model allows it all the same
abbrev pub IsTheirs : History → Step → Type 0
IsTheirs before step = (step.own ≡ false) × Modelled before step

-- each added step has P at its place
abbrev pub Every : (History → Step → Type 0) → History → History → Type 0
Every P [] history = Unit {0}
Every P (step ∷ added) history = Every P added history × P (added ++ history) step

-- each added step of others has P at its place
abbrev pub Others : (History → Step → Type 0) → History → History → Type 0
Others P added history = Every (λ before step. step.own ≡ false → P before step) added history
