-- What `held` shows.
use Rattle.std.specs.Prelude.{◌≡◌, ℕ, zero, suc, length, codes, Option, Result, Ok, Err}
use Rattle.chk_site.specs.declared.acts.OutsideFault.{OutsideFault}
use Rattle.chk_site.specs.History.{History}
use Rattle.chk_world.specs.Sight.{job}
use Rattle.chk_record_index.specs.declared.fault.JobFault.{JobFault}
use Rattle.chk_book.specs.Books.{book_view}
use Rattle.chk_cmd_output.specs.Printing.{PrintsInTurn}
use Rattle.chk_ctl_held.specs.declared.finding.Waiting.{Waiting}
use Rattle.chk_ctl_held.specs.Finding.{FoundAgain}
use Rattle.chk_ctl_held.specs.Lines.{held_lines}
use Rattle.chk_ctl_run.specs.declared.outcome.Outcome.{Outcome}
use Rattle.chk_ctl_run.specs.declared.outcome.Outcome.TheVariants.{Waits}
use Rattle.chk_ctl_run.specs.Outcomes.{outcome_of_job, told_as}

-- the outcome of the lines: done only where no chunk waits
abbrev pub held_as : ℕ → Result (Unit {0}) OutsideFault → Outcome
held_as count (Err fault) = told_as (Err fault)
held_as zero (Ok value) = told_as (Ok value)
held_as (suc count) (Ok value) = Waits

-- a line is printed for each stream of which chunks wait, up to a refusal
pub record TellsHeld (w : Waiting) (outcome : Outcome) (before after : Option History) : Type
    0 where
  pub given : Result (Unit {0}) OutsideFault
  pub printed : PrintsInTurn job (held_lines (book_view w.book) w.heads) given before after
  pub is : outcome ≡ held_as (length w.heads) given

-- the chunks that the archive's book sets aside are found, and then the lines are printed; or
-- damage ends the work
pub data ShowsHeld : Outcome → Option History → Option History → Type 0 where
  not_found_out : {old new : Option History} (fault : JobFault)
      → FoundAgain (codes "archive") (Err fault) old new
      → ShowsHeld (outcome_of_job fault) old new
  found_out : {outcome : Outcome} {old mid new : Option History} (w : Waiting)
      → FoundAgain (codes "archive") (Ok w) old mid → TellsHeld w outcome mid new
      → ShowsHeld outcome old new
