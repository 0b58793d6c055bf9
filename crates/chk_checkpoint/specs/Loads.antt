-- What a load gives.
use Rattle.std.specs.Prelude.{◌≡◌, ℕ, List, [], Option, Some, None, Result, Ok, Err}
use Rattle.chk_site.specs.Files.{File}
use Rattle.chk_site.specs.History.{History, files_after}
use Rattle.chk_replace.specs.Load.{Has, bytes_of}
use Rattle.chk_world.specs.Checkpoints.{checkpoint_lines}
use Rattle.chk_checkpoint.specs.declared.Checkpoint.{Checkpoint}
use Rattle.chk_checkpoint.specs.declared.fault.CheckFault.{CheckFault}
use Rattle.chk_checkpoint.specs.declared.fault.CheckFault.TheVariants.{Damaged, Outside, NoMemory}
use Rattle.chk_checkpoint.specs.Lines.{lines_of}
use Rattle.chk_checkpoint.specs.Damage.{IsReading}

-- by the file's bytes: none are no lines
abbrev pub IsReadingOf : Option (List ℕ) → Result Checkpoint CheckFault → Type 0
IsReadingOf (Some text) result = IsReading text result
IsReadingOf None (Ok check) = lines_of check ≡ []
IsReadingOf None (Err NoMemory) = Unit {0}
IsReadingOf None (Err fault) = ⊥

-- the file is still this one, and the answer is by its bytes; nothing is said where a call failed or there was no memory
abbrev pub LoadedLines : List ℕ → Option File → Result Checkpoint CheckFault → History → Type 0
LoadedLines name file (Err (Outside call)) history = Unit {0}
LoadedLines name file (Err NoMemory) history = Unit {0}
LoadedLines name file result history = Has name file history × IsReadingOf (bytes_of file) result

-- at Ok these are the lines of the checkpoint, and it isn't damaged
abbrev pub IsSound : List ℕ → Result Checkpoint CheckFault → History → Type 0
IsSound source (Ok check) history = checkpoint_lines (files_after history) source ≡ lines_of check
IsSound source (Err (Damaged at)) history = ⊥
IsSound source (Err fault) history = Unit {0}
