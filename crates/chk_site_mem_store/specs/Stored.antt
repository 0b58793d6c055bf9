-- The files and logs that are stored, as the file model sees them.
use Rattle.std.specs.Prelude.{◌≡◌, ℕ, ◌-◌, List, [], ◌++◌, take, length, map, Option, Some, None, bytes_eq, option_map, true, if◌then◌else◌}
use denote.Ref.{Bor}
use Rattle.chk_site.specs.declared.acts.Act.{Act}
use Rattle.chk_site.specs.declared.lists.Left.{Left}
use Rattle.chk_site.specs.Files.{File, Files, changed}
use Rattle.chk_site.specs.Acts.{Deed, change_of, tail_of}
use Rattle.chk_site.specs.Logs.{Generation, Log, Logs, logs_changed}
use Rattle.chk_site_mem_store.specs.declared.named.Named.{Named}
use Rattle.chk_site_mem_store.specs.declared.files.MemFile.{MemFile}
use Rattle.chk_site_mem_store.specs.declared.logs.MemGeneration.{MemGeneration}
use Rattle.chk_site_mem_store.specs.declared.logs.MemLog.{MemLog}
use Rattle.chk_site_mem_store.specs.Named.{under}
use Rattle.chk_site_mem_store.specs.Told.{did_of, files_by, fitted, stopped_change}

-- a stored file as the file model sees it: all but the loose bytes are synced
abbrev pub file_of : MemFile → File
file_of file = record { bytes = file.bytes; synced = length file.bytes - file.loose }

-- the file of each name
abbrev pub file_in : List (Named MemFile) → Files
file_in = under file_of

-- the file behind a reference
abbrev pub file_at : Option (Bor MemFile) → Option File
file_at None = None
file_at (Some file) = Some (file_of file.now)

-- these files are stored
pub record Stores (stored : List (Named MemFile)) (files : Files) : Type 0 where
  pub at : (name : List ℕ) → file_in stored name ≡ files name

-- the files with this one in the place of a file of that name
abbrev pub with_file : List ℕ → File → Files → Files
with_file n file files name = if bytes_eq name n then option_map (λ _. file) (files name) else files name

-- a file without a byte
abbrev pub empty_file : File
empty_file = record { bytes = []; synced = 0 }

-- a stored generation as the file model sees it
abbrev pub generation_of : MemGeneration → Generation
generation_of g = record { suffix = g.suffix; bytes = g.bytes; deleted = g.deleted }

-- a stored generation, marked as deleted where it has this suffix
abbrev pub marked_one : List ℕ → MemGeneration → MemGeneration
marked_one suffix g = record { suffix = g.suffix; bytes = g.bytes; deleted = if bytes_eq g.suffix suffix then true else g.deleted }

-- a stored log as the file model sees it
abbrev pub log_of : MemLog → Log
log_of log = record { rotated = map generation_of log.rotated.items; base = log.base }

-- a log that nobody has written to
abbrev pub empty_log : Log
empty_log = record { rotated = []; base = [] }

-- a log where there is one
abbrev pub log_or_empty : Option Log → Log
log_or_empty None = empty_log
log_or_empty (Some log) = log

-- the log of each path
abbrev pub log_in : List (Named MemLog) → Logs
log_in stored path = log_or_empty (under log_of stored path)

-- the log behind a reference
abbrev pub log_at : Option (Bor MemLog) → Log
log_at None = empty_log
log_at (Some log) = log_of log.now

-- these logs are stored
pub record StoresLogs (stored : List (Named MemLog)) (logs : Logs) : Type 0 where
  pub at : (path : List ℕ) → log_in stored path ≡ logs path

-- these files and logs are stored
pub record IsStored (stored : List (Named MemFile)) (kept : List (Named MemLog)) (files : Files) (logs : Logs) : Type 0 where
  pub files_are : Stores stored files
  pub logs_are : StoresLogs kept logs

-- the act came back with a stop's tails cut to what the file model allows, and the files and logs are those that it left of these
pub record IsLeft (files : Files) (logs : Logs) (act left : Act) (stored : List (Named MemFile)) (kept : List (Named MemLog)) : Type 0 where
  pub fits : left ≡ fitted files act
  pub leaves : IsStored stored kept (files_by left files) (logs_changed (did_of left) logs)

-- a stored file after a stop: its synced bytes and then the tail, where the stop names it
abbrev pub tailed_file : Option (List ℕ) → MemFile → MemFile
tailed_file None file = file
tailed_file (Some tail) file =
    record { bytes = take (length file.bytes - file.loose) file.bytes ++ tail; loose = length tail }

-- the same under its name
abbrev pub tailed : List Left → Named MemFile → Named MemFile
tailed left entry = record { name = entry.name; value = tailed_file (tail_of left entry.name) entry.value }

-- the files before a stop left the tails of these
abbrev pub middle_files : Deed → List Left → Files → Files
middle_files call left files = changed (stopped_change left (change_of call)) files
