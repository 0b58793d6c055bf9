-- What `passed` shows.
use Rattle.std.specs.Prelude.{Option, Ok, Err}
use Rattle.chk_site.specs.History.{History}
use Rattle.chk_record_index.specs.declared.fault.JobFault.{JobFault}
use Rattle.chk_ctl_passed.specs.declared.judging.Verdict.{Verdict}
use Rattle.chk_ctl_passed.specs.declared.judging.Verdict.TheVariants as verdict
use Rattle.chk_ctl_passed.specs.Agents.{ByFolder}
use Rattle.chk_ctl_line.specs.Commands.{PassedAsked}
use Rattle.chk_ctl_run.specs.declared.outcome.Outcome.{Outcome}
use Rattle.chk_ctl_run.specs.declared.outcome.Outcome.TheVariants.{Behind, Done, Unknown}
use Rattle.chk_ctl_run.specs.Outcomes.{outcome_of_job}

-- done only where each checkpoint that has the log has passed its oldest generation, and one has it
abbrev pub passed_as : Verdict → Outcome
passed_as verdict.Passed = Done
passed_as verdict.Behind = Behind
passed_as verdict.Unknown = Unknown

-- the checkpoints are weighed, or one can't be
pub data ShowsPassed (w : PassedAsked) : Outcome → Option History → Option History → Type 0 where
  not_weighed : {old new : Option History} (fault : JobFault) → ByFolder w.log (Err fault) old new
      → ShowsPassed w (outcome_of_job fault) old new
  weighed : {old new : Option History} (verdict : Verdict) → ByFolder w.log (Ok verdict) old new
      → ShowsPassed w (passed_as verdict) old new
