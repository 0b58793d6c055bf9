-- A record that is fetched by its head.
use Rattle.std.specs.Prelude.{◌≡◌, ℕ, List, Result, Ok, Err}
use Rattle.chk_site.specs.History.{History}
use Rattle.chk_replace.specs.Load.{Has}
use Rattle.chk_chunk.specs.Keys.{Chunk}
use Rattle.chk_world.specs.Sight.{Sight}
use Rattle.chk_record_index.specs.Heads.{Head}
use Rattle.chk_record_index.specs.declared.fault.JobFault.{JobFault}
use Rattle.chk_record_index.specs.declared.fault.JobFault.TheVariants.{Damaged}
use Rattle.chk_archive_plan.specs.Passes.{head_in}
use Rattle.chk_record_reader.specs.ReadBack.{IsWindowOf, value_held}
use Rattle.chk_record_reader.specs.Segments.{HasFiles}
use Rattle.chk_record_reader.specs.declared.reader.RecordReader.{RecordReader}
use Rattle.chk_archive_parts.specs.Gathering.{held}
use Rattle.chk_archive_parts.specs.Records.{file_at, IsRecordOf}

-- the file of the head at a place
abbrev pub head_file : List (List ℕ) → List Head → ℕ → List ℕ
head_file files heads i = file_at files (head_in heads i).file

-- it is that of a record in one of the files
abbrev pub IsRecordAt : Sight → List (List ℕ) → List Head → ℕ → Chunk → Type 0
IsRecordAt v files heads i c = IsRecordOf v files (head_in heads i) c

-- where the reader's window is of one of these files, it is what the file has there
abbrev pub AreWindows : Sight → List (List ℕ) → RecordReader → Type 0
AreWindows v files r = (n : ℕ) → IsWindowOf n (held v (file_at files n)) r

-- the head's file is the one that the job knows, and windows are true
abbrev pub CanFetch : Sight → List (List ℕ) → List Head → ℕ → RecordReader → History → Type 0
CanFetch v files heads i r history =
    Has (head_file files heads i) (held v (head_file files heads i)) history × AreWindows v files r

-- at Ok the value is the chunk's, and windows are true; the file is never damaged
abbrev pub Fetched : Sight → List (List ℕ) → List Head → ℕ → Chunk → RecordReader → Result (Unit {0}) JobFault
    → History → Type 0
Fetched v files heads i c r (Ok value) history = AreWindows v files r × (value_held r ≡ c.value)
Fetched v files heads i c r (Err (Damaged which at)) history = ⊥
Fetched v files heads i c r (Err fault) history = Unit {0}

-- the files are those that the job knows, and windows are true
abbrev pub CanFetchAll : Sight → List (List ℕ) → RecordReader → History → Type 0
CanFetchAll v files r history = HasFiles files (held v) history × AreWindows v files r

-- at Ok the value is the chunk's, and it is still so; no file is damaged
abbrev pub FetchedAll : Sight → List (List ℕ) → Chunk → RecordReader → Result (Unit {0}) JobFault → History → Type 0
FetchedAll v files c r (Ok value) history = CanFetchAll v files r history × (value_held r ≡ c.value)
FetchedAll v files c r (Err (Damaged which at)) history = ⊥
FetchedAll v files c r (Err fault) history = Unit {0}
