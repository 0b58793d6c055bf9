-- What a demux run prints, and what it does besides.
use Rattle.std.specs.Prelude.{◌≡◌, ◌⊎◌, ℕ, false, List, [], ◌∷◌, ◌++◌, Result, Ok, Err}
use Rattle.chk_site.specs.Acts.{Deed, Says}
use Rattle.chk_site.specs.History.{History, is_stopped}
use Rattle.chk_site.specs.Runs.{own_acts}
use Rattle.chk_world.specs.Sight.{job}
use Rattle.chk_record_index.specs.declared.fault.JobFault.{JobFault}
use Rattle.chk_cmd_output.specs.Printing.{by, printed}
use Rattle.chk_cmd_line.specs.Lines.{demux_line}
use Rattle.chk_demux.specs.Demuxed.{DemuxesBy}
use Rattle.chk_demux.specs.declared.report.DemuxReport.{DemuxReport}

-- the line of a run
abbrev pub run_line : DemuxReport → List ℕ
run_line r = demux_line r.taken r.entries r.left

-- A run that is done has printed just the line of its report, as the job. One that isn't has printed nothing, or the line of one
-- report.
abbrev pub IsTold : Result DemuxReport JobFault → History → History → Type 0
IsTold (Ok r) added history = printed (own_acts added) ≡ by job (run_line r) ∷ []
IsTold (Err fault) added history =
    (printed (own_acts added) ≡ []) ⊎ ((r : DemuxReport) × (printed (own_acts added) ≡ by job (run_line r) ∷ []))

-- the calls: those of a demux run, and prints
pub data DemuxesAndTells : Deed → Type 0 where
  demuxes : (call : Deed) → DemuxesBy call → DemuxesAndTells call
  tells : (text : List ℕ) → DemuxesAndTells (Says text)

-- a run that is done wasn't stopped
abbrev pub EndsRunning : {T : Type 0} → Result T JobFault → History → History → Type 0
EndsRunning (Ok value) added history = is_stopped (added ++ history) ≡ false
EndsRunning (Err fault) added history = Unit {0}
