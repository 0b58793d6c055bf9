-- Where a text that is no checkpoint is damaged.
use Rattle.std.specs.Prelude.{◌≡◌, ◌⊎◌, ℕ, ◌≤◌, IsTrue, List, length, take, None, Some, Result, Ok, Err}
use Rattle.chk_world.specs.Checkpoints.{Line, Version as Text, checkpoint_text, read_checkpoint, are_lines}
use Rattle.chk_checkpoint.specs.declared.Checkpoint.{Checkpoint}
use Rattle.chk_checkpoint.specs.declared.fault.CheckFault.{CheckFault}
use Rattle.chk_checkpoint.specs.declared.fault.CheckFault.TheVariants.{Damaged, NoMemory}
use Rattle.chk_checkpoint.specs.Lines.{lines_of}

-- the text is a checkpoint of these lines in this version
abbrev pub SpellsLines : Text → List Line → List ℕ → Type 0
SpellsLines v lines text = IsTrue (are_lines v lines) × (text ≡ checkpoint_text v lines)

-- The first line that may not stand there begins at this byte: what stands before it is a checkpoint, or nothing, and no
-- longer front of the text is one.
pub record IsFirstBad (text : List ℕ) (at : ℕ) : Type 0 where
  pub none : read_checkpoint text ≡ None
  pub within : at ≤ length text
  pub before : (at ≡ 0) ⊎ ((v : Text) × (lines : List Line) × SpellsLines v lines (take at text))
  pub longest : (n : ℕ) (v : Text) (lines : List Line) → n ≤ length text → SpellsLines v lines (take n text) → n ≤ at

-- what is read of a text: its lines, or where it is damaged
abbrev pub IsReading : List ℕ → Result Checkpoint CheckFault → Type 0
IsReading text (Ok check) = read_checkpoint text ≡ Some (lines_of check)
IsReading text (Err (Damaged at)) = IsFirstBad text at
IsReading text (Err NoMemory) = Unit {0}
IsReading text (Err fault) = ⊥
