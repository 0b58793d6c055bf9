-- What an archive run prints, and what it does besides.
use Rattle.std.specs.Prelude.{◌≡◌, ℕ, false, List, ◌∷◌, ◌++◌, map, Result, Ok, Err}
use Rattle.chk_site.specs.Acts.{Deed, Says}
use Rattle.chk_site.specs.History.{History, is_stopped}
use Rattle.chk_site.specs.Runs.{own_acts}
use Rattle.chk_world.specs.Books.{End}
use Rattle.chk_world.specs.Sight.{job}
use Rattle.chk_record_index.specs.declared.fault.JobFault.{JobFault}
use Rattle.chk_archive.specs.Archived.{ArchivesBy}
use Rattle.chk_archive.specs.Reports.{Report}
use Rattle.chk_cmd_output.specs.Printing.{by, printed}
use Rattle.chk_cmd_line.specs.Lines.{archive_line, end_line}

-- the line of a run
abbrev pub run_line : Report → List ℕ
run_line r = archive_line r.unclosed r.taken r.held r.removed

-- the line of a stream
abbrev pub stream_line : End → List ℕ
stream_line e = end_line e.stream.source e.stream.kind e.stream.name e.end

-- all lines, in order
abbrev pub report_lines : Report → List (List ℕ)
report_lines r = run_line r ∷ map stream_line r.ends

-- a run that is done has printed just the lines of its report, as the job
abbrev pub IsTold : Result Report JobFault → History → History → Type 0
IsTold (Ok r) added history = printed (own_acts added) ≡ map (by job) (report_lines r)
IsTold (Err fault) added history = Unit {0}

-- the calls: those of an archive run, and prints
pub data ArchivesAndTells : Deed → Type 0 where
  archives : (call : Deed) → ArchivesBy call → ArchivesAndTells call
  tells : (text : List ℕ) → ArchivesAndTells (Says text)

-- a run that is done wasn't stopped
abbrev pub EndsRunning : {T : Type 0} → Result T JobFault → History → History → Type 0
EndsRunning (Ok value) added history = is_stopped (added ++ history) ≡ false
EndsRunning (Err fault) added history = Unit {0}
