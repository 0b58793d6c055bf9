-- What a join prints, what it does besides, and what it leaves.
use Rattle.std.specs.Prelude.{◌≡◌, ◌⊎◌, ℕ, false, List, [], ◌∷◌, ◌++◌, Option, Result, Ok, Err}
use Rattle.chk_site.specs.declared.acts.Call.TheVariants.{Say}
use Rattle.chk_site.specs.declared.acts.OutsideFault.{OutsideFault}
use Rattle.chk_site.specs.declared.acts.OutsideFault.TheVariants.{Outside as site_failed, NoMemory as no_memory}
use Rattle.chk_site.specs.declared.acts.Who.{Who}
use Rattle.chk_site.specs.Acts.{Deed, Says}
use Rattle.chk_site.specs.Files.{Files}
use Rattle.chk_site.specs.History.{History, Every, Others, files_after, is_stopped}
use Rattle.chk_site.specs.Runs.{own_acts}
use Rattle.chk_world.specs.Sight.{job}
use Rattle.chk_world.specs.JobSteps.{IsOf}
use Rattle.chk_record_index.specs.declared.fault.JobFault.TheVariants as Jobs
use Rattle.chk_record_reader.specs.Segments.{AreSettled}
use Rattle.chk_cmd_output.specs.Printing.{PrintsInTurn, by, printed}
use Rattle.chk_cmd_line.specs.Joining.{join_line}
use Rattle.chk_join.specs.Faults.{JoinsBy}
use Rattle.chk_join.specs.Joined.{reads_of, LeavesFolders, Joined, Kept}
use Rattle.chk_join.specs.declared.report.JoinReport.{JoinReport}
use Rattle.chk_join.specs.declared.fault.JoinFault.{JoinFault}
use Rattle.chk_join.specs.declared.fault.JoinFault.TheVariants.{Job, Differ, NoMemory}

-- the line of a join
abbrev pub run_line : JoinReport → List ℕ
run_line r = join_line r.streams r.bytes

-- the fault of a print as that of a join
abbrev pub tell_fault : OutsideFault → JoinFault
tell_fault (site_failed call) = Job (Jobs.Outside call)
tell_fault no_memory = NoMemory

-- the answer of a print as that of a join with this report
abbrev pub printed_result : JoinReport → Result Unit OutsideFault → Result JoinReport JoinFault
printed_result r (Ok value) = Ok r
printed_result r (Err fault) = Err (tell_fault fault)

-- the line of the report was printed, by the answer
abbrev pub PrintsReport : Who → JoinReport → Result JoinReport JoinFault → Option History
    → Option History → Type 0
PrintsReport who r result old new =
    (said : Result Unit OutsideFault) × ((result ≡ printed_result r said)
    × PrintsInTurn who (run_line r ∷ []) said old new)

-- A run that is done has printed just the line of its report, as the job. One that isn't has
-- printed nothing, or the line of one report.
abbrev pub IsTold : Result JoinReport JoinFault → History → History → Type 0
IsTold (Ok r) added history = printed (own_acts added) ≡ by job (run_line r) ∷ []
IsTold (Err fault) added history =
    (printed (own_acts added) ≡ []) ⊎ ((r : JoinReport)
    × (printed (own_acts added) ≡ by job (run_line r) ∷ []))

-- the calls: those of a join, and prints
pub data JoinsAndTells : Deed → Type 0 where
  joins : (call : Deed) → JoinsBy call → JoinsAndTells call
  tells : (text : List ℕ) → JoinsAndTells (Says text)

-- a print
pub data Tells : Deed → Type 0 where
  says : (text : List ℕ) → Tells (Says text)

-- a run that is done wasn't stopped
abbrev pub EndsRunning : {T : Type 0} → Result T JoinFault → History → History → Type 0
EndsRunning (Ok value) added history = is_stopped (added ++ history) ≡ false
EndsRunning (Err fault) added history = Unit {0}

-- the fault is that of a print
abbrev pub IsTellFault : JoinFault → Type 0
IsTellFault (Job (Jobs.Outside call)) = call ≡ Say
IsTellFault (Job fault) = ⊥
IsTellFault (Differ source kind name at) = ⊥
IsTellFault NoMemory = Unit {0}

-- the run's answer is that of its join, or the print behind it failed
abbrev pub IsAnswerOf : Result JoinReport JoinFault → Result JoinReport JoinFault → Type 0
IsAnswerOf done (Ok r) = done ≡ Ok r
IsAnswerOf done (Err fault) = (done ≡ Err fault)
    ⊎ ((r : JoinReport) × ((done ≡ Ok r) × IsTellFault fault))

-- what a join leaves, from these files on
pub record LeftByJoin (left right : List ℕ) (files : Files) (result : Result JoinReport JoinFault)
    (history : History)
    : Type 0 where
  pub joined : Joined files left right result history
  pub kept : Kept files left right result history

-- Before the print this join was done, from the files that stood there: where these were settled,
-- and no step of others named a file of the three folders, it left what its answer says. Behind it
-- the run only prints.
pub record ShowsJoin (left right : List ℕ) (result : Result JoinReport JoinFault)
    (added history : History) : Type 0 where
  pub tail : History
  pub body : History
  pub is : added ≡ tail ++ body
  pub done : Result JoinReport JoinFault
  pub answer : IsAnswerOf done result
  pub only_prints : Every (IsOf Tells) tail (body ++ history)
  pub left_so : AreSettled (reads_of (files_after history) left right) (files_after history)
      → Others (LeavesFolders left right) body history
      → LeftByJoin left right (files_after history) done (body ++ history)
