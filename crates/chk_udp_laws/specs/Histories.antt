-- The histories in which a writer's steps are runs of the command.
use Rattle.std.specs.Prelude.{◌≡◌, ℕ, false, List, [], ◌∷◌, None}
use Rattle.chk_site.specs.Acts.{deed, touches, tail_in}
use Rattle.chk_site.specs.History.{Step, History, is_by}
use Rattle.chk_replace.specs.Replace.{tmp}
use Rattle.chk_wahead.specs.Names.{writer, next_name, buffer_name, mark_name, closed_name}

-- the files of a writer's buffers
pub data OwnFile : Type 0 where
  NextFile : OwnFile
  NextTemporary : OwnFile
  BufferFile : OwnFile
  MarkFile : OwnFile
  MarkTemporary : OwnFile
  ClosedFile : ℕ → OwnFile

abbrev pub own_name : List ℕ → OwnFile → List ℕ
own_name n NextFile = next_name n
own_name n NextTemporary = tmp (next_name n)
own_name n BufferFile = buffer_name n
own_name n MarkFile = mark_name n
own_name n MarkTemporary = tmp (mark_name n)
own_name n (ClosedFile k) = closed_name n k

-- the step makes, changes and removes none of them, but that a stop may leave tails of them
abbrev pub LeavesFiles : List ℕ → Step → Type 0
LeavesFiles n step = (f : OwnFile) → touches (deed step.act) (own_name n f) ≡ false

-- the step is another process's, leaves the files, and leaves no tail of one of them
pub record IsApart (n : List ℕ) (before : History) (step : Step) : Type 0 where
  pub by : is_by (writer n) step ≡ false
  pub leaves : LeavesFiles n step
  pub no_tail : (f : OwnFile) → tail_in step.act.answer (own_name n f) ≡ None

-- the same steps, but for who told them
pub data SameSteps : History → History → Type 0 where
  none : SameSteps [] []
  one : {step same : Step} {history others : History} → SameSteps history others
      → same.act ≡ step.act → same.files ≡ step.files
      → SameSteps (step ∷ history) (same ∷ others)
