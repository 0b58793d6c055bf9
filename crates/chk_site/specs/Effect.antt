-- The file model: what an act leaves of the files and the logs.
use Rattle.std.specs.Prelude.{◌≡◌, ℕ, ◌+◌, ◌≤◌, ◌<◌, ◌^◌, List, ◌++◌, length, take, Option, Some, None, option_map, bytes_eq, if◌then◌else◌}
use Rattle.chk_site.specs.declared.acts.Act.{Act}
use Rattle.chk_site.specs.declared.acts.ActAnswer.{ActAnswer}
use Rattle.chk_site.specs.declared.acts.ActAnswer.TheVariants.{Stopped}
use Rattle.chk_site.specs.Files.{File, Files, Change, changed}
use Rattle.chk_site.specs.Logs.{Logs, logs_changed, log_size}
use Rattle.chk_site.specs.Acts.{Deed, Appends, GrowsLog, deed, Did, tail_of}

-- a file after a stop that names it: its synced bytes, and then the tail
abbrev pub with_tail : Option (List ℕ) → File → File
with_tail None file = file
with_tail (Some tail) file = record { bytes = take file.synced file.bytes ++ tail; synced = file.synced }

-- the bytes that a stopped append was about to write to this file
abbrev pub in_work : Deed → List ℕ → ℕ
in_work (Appends name piece) file = if bytes_eq file name then length piece else 0
in_work call file = 0

-- a tail is no longer than what was written past the synced bytes
abbrev pub TailFits : ℕ → Option (List ℕ) → Option File → Type 0
TailFits extra (Some tail) (Some file) = file.synced + length tail ≤ length file.bytes + extra
TailFits extra tail file = Unit {0}

-- the files after the call did what it did: where it was stopped, with the tails that the stop leaves
abbrev pub UnsyncedTails : Deed → ActAnswer → Files → Files → Type 0
UnsyncedTails call (Stopped left) middle after =
    (name : List ℕ) → (after name ≡ option_map (with_tail (tail_of left name)) (middle name))
    × TailFits (in_work call name) (tail_of left name) (middle name)
UnsyncedTails call answer middle after = (name : List ℕ) → after name ≡ middle name

-- the files and the logs before an act and after it
pub record Effect (files : Files) (logs : Logs) (act : Act) (files' : Files) (logs' : Logs) : Type 0 where
  pub did : Change
  pub may : Did (deed act) act.answer did
  pub files_left : UnsyncedTails (deed act) act.answer (changed did files) files'
  pub logs_left : (path : List ℕ) → logs' path ≡ logs_changed did logs path

-- the file is shorter than 2^63 bytes
abbrev pub IsSmallFile : Option File → Type 0
IsSmallFile None = Unit {0}
IsSmallFile (Some file) = length file.bytes < 2 ^ 63

-- the one file that an append grows stays shorter than 2^63 bytes, and the one log shorter than 2^62, so that
-- with a start below 2^62 its offsets stay below 2^63; no other call grows one
abbrev pub StaysSmall : Deed → Files → Logs → Type 0
StaysSmall (Appends name piece) files logs = IsSmallFile (files name)
StaysSmall (GrowsLog path piece) files logs = log_size (logs path) < 2 ^ 62
StaysSmall call files logs = Unit {0}
