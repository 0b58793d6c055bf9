-- What `sum` shows.
use Rattle.std.specs.Prelude.{◌≡◌, codes, map, Option, Result, Ok, Err}
use Rattle.chk_site.specs.declared.acts.OutsideFault.{OutsideFault}
use Rattle.chk_site.specs.History.{History}
use Rattle.chk_world.specs.Sight.{job}
use Rattle.chk_record_index.specs.declared.fault.JobFault.{JobFault}
use Rattle.chk_book.specs.Views.{end_view}
use Rattle.chk_cmd_output.specs.Printing.{PrintsInTurn}
use Rattle.chk_ctl_sum.specs.declared.sums.Sums.{Sums}
use Rattle.chk_ctl_sum.specs.Lines.{sum_lines}
use Rattle.chk_ctl_sum.specs.Sums.{SummedAgain}
use Rattle.chk_ctl_run.specs.declared.outcome.Outcome.{Outcome}
use Rattle.chk_ctl_run.specs.Outcomes.{outcome_of_job, told_as}

-- the line of each stream and its digest is printed, up to a refusal
pub record TellsSums (sums : Sums) (outcome : Outcome) (before after : Option History) : Type
    0 where
  pub given : Result (Unit {0}) OutsideFault
  pub printed : PrintsInTurn job (sum_lines (map end_view sums.ends) sums.digests) given before
      after
  pub is : outcome ≡ told_as given

-- the archive's streams are summed, and then their lines are printed; or damage ends the work
pub data ShowsSums : Outcome → Option History → Option History → Type 0 where
  not_summed : {old new : Option History} (fault : JobFault)
      → SummedAgain (codes "archive") (Err fault) old new
      → ShowsSums (outcome_of_job fault) old new
  summed : {outcome : Outcome} {old mid new : Option History} (sums : Sums)
      → SummedAgain (codes "archive") (Ok sums) old mid → TellsSums sums outcome mid new
      → ShowsSums outcome old new
