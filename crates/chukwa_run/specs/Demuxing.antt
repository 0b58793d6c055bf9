-- What a demux run did, and what its end shows.
use Rattle.std.specs.Prelude.{◌≡◌, ◌⊎◌, ℕ, ◌-◌, ◌^◌, List, [], ◌∷◌, ◌++◌}
use Rattle.chk_bytes.specs.Numbers.{last_number}
use Rattle.chk_site.specs.declared.acts.Act.{Act}
use Rattle.chk_site.specs.Acts.{deed}
use Rattle.chk_site.specs.History.{History, files_after}
use Rattle.chk_site.specs.Runs.{own_acts}
use Rattle.chk_world.specs.Sight.{job}
use Rattle.chk_demux.specs.Demuxed.{earlier_in, NamesStamped, DemuxDone, LacksNumber}
use Rattle.chk_demux.specs.declared.report.DemuxReport.{DemuxReport}
use Rattle.chk_cmd_output.specs.Printing.{by, printed}
use Rattle.chk_cmd_demux.specs.Telling.{DemuxesAndTells, run_line}
use Rattle.chk_cmd_line.specs.declared.endings.Ending.{Ending}
use Rattle.chk_cmd_line.specs.declared.endings.Ending.TheVariants.{Damaged, Spent}
use Rattle.chk_cmd_line.specs.Commands.{Asked, Demux}

-- the types that a demux run is asked for are just those that the rules split by stamps
abbrev pub SuitsTypes : List (List ℕ) → Asked → Type 0
SuitsTypes stamped (Demux kinds) = NamesStamped stamped kinds
SuitsTypes stamped command = Unit {0}

-- all of these acts are the job's, and of the kinds that a demux run and its print make
abbrev pub AreDemuxActs : List Act → Type 0
AreDemuxActs [] = Unit {0}
AreDemuxActs (act ∷ acts) = (act.who ≡ job) × DemuxesAndTells (deed act) × AreDemuxActs acts

-- nothing was printed, or the line of one report
abbrev pub DemuxedAtMost : List Act → Type 0
DemuxedAtMost acts = (printed acts ≡ []) ⊎ ((r : DemuxReport) × (printed acts ≡ by job (run_line r) ∷ []))

-- just the line of this report was printed
pub record DemuxedOnce (report : DemuxReport) (acts : List Act) : Type 0 where
  pub each : AreDemuxActs acts
  pub printed_is : printed acts ≡ by job (run_line report) ∷ []

-- and the report is that of the run, which began with the records and the segments that stood there before
pub record DemuxWhole (stamped : List (List ℕ)) (earlier added : History) : Type 0 where
  pub report : DemuxReport
  pub acts : DemuxedOnce report (own_acts added)
  pub done : DemuxDone stamped (earlier_in (files_after earlier)) report (added ++ earlier)

-- In a legal history nothing of its own is damaged, and the segment numbers are spent only where the next one is the last, and a
-- record is still to be written, by these types.
abbrev pub DemuxFits : List (List ℕ) → History → Ending → Type 0
DemuxFits kinds history (Damaged name at) = ⊥
DemuxFits kinds history (Spent n) = (n ≡ last_number) × LacksNumber kinds history
DemuxFits kinds history e = Unit {0}
