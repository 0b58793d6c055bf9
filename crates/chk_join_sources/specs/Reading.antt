-- What is read of records whose heads are known, while the files of both archives stay.
use Rattle.std.specs.Prelude.{◌≡◌, List, ℕ, Contains, Result, Ok, Err}
use Rattle.chk_site.specs.Files.{Files}
use Rattle.chk_site.specs.History.{History}
use Rattle.chk_record_index.specs.Heads.{Head}
use Rattle.chk_record_index.specs.declared.fault.JobFault.{JobFault}
use Rattle.chk_record_index.specs.declared.fault.JobFault.TheVariants.{Damaged}
use Rattle.chk_record_reader.specs.declared.reader.RecordReader.{RecordReader}
use Rattle.chk_record_reader.specs.ReadBack.{value_held}
use Rattle.chk_record_reader.specs.Segments.{HasFiles}
use Rattle.chk_record_reader.specs.Archives.{AreWindows, value_in}

-- each of these names is one of all
abbrev pub AreAmong : List (List ℕ) → List (List ℕ) → Type 0
AreAmong all names = (w : List ℕ) → Contains names w → Contains all w

-- at Ok the value is that of the head's record, the window is one of its file, and all files are as they were; it is never damaged
abbrev pub Fetched : List (List ℕ) → List (List ℕ) → Files → Head → RecordReader → Result (Unit {0}) JobFault → History → Type 0
Fetched all names held h r (Ok value) history =
    HasFiles all held history × AreWindows names held r × (value_held r ≡ value_in names held h)
Fetched all names held h r (Err (Damaged name at)) history = ⊥
Fetched all names held h r (Err fault) history = Unit {0}
