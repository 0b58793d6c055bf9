-- A join as a command: what it did, and what each of its ends shows.
use Rattle.std.specs.Prelude.{◌≡◌, ◌⊎◌, List, [], ◌∷◌, Ok, Err}
use Rattle.chk_site.specs.declared.acts.Act.{Act}
use Rattle.chk_site.specs.Acts.{deed}
use Rattle.chk_site.specs.History.{History}
use Rattle.chk_site.specs.Runs.{own_acts}
use Rattle.chk_world.specs.Sight.{job}
use Rattle.chk_join.specs.declared.report.JoinReport.{JoinReport}
use Rattle.chk_join.specs.declared.fault.JoinFault.{JoinFault}
use Rattle.chk_join.specs.declared.fault.JoinFault.TheVariants as Joins
use Rattle.chk_cmd_join.specs.Telling.{JoinsAndTells, ShowsJoin, run_line}
use Rattle.chk_cmd_output.specs.Printing.{by, printed}
use Rattle.chk_cmd_line.specs.Joining.{JoinAsked}
use Rattle.chk_cmd_line.specs.declared.endings.Ending.{Ending}
use Rattle.chk_cmd_line.specs.declared.endings.Ending.TheVariants.{Outside, NoMemory, Damaged, Spent, Differ}
use Rattle.chukwa_run.specs.JobFaults.{job_ending}
use Rattle.chukwa_run.specs.Datagrams.{FailedAtLast}

-- the same fault of a join
abbrev pub join_ending : JoinFault → Ending
join_ending (Joins.Job fault) = job_ending fault
join_ending (Joins.Differ source kind name at) = Differ source kind name at
join_ending Joins.NoMemory = NoMemory

-- which ends a join has
abbrev pub IsJoinEnding : Ending → Type 0
IsJoinEnding (Outside call) = Unit {0}
IsJoinEnding NoMemory = Unit {0}
IsJoinEnding (Damaged name at) = Unit {0}
IsJoinEnding (Spent n) = Unit {0}
IsJoinEnding (Differ source kind name at) = Unit {0}
IsJoinEnding e = ⊥

-- all of these acts are the job's, and of the kinds that a join and its print make
abbrev pub AreJoinActs : List Act → Type 0
AreJoinActs [] = Unit {0}
AreJoinActs (act ∷ acts) = (act.who ≡ job) × JoinsAndTells (deed act) × AreJoinActs acts

-- nothing was printed, or the line of one report
abbrev pub JoinedAtMost : List Act → Type 0
JoinedAtMost acts = (printed acts ≡ []) ⊎ ((r : JoinReport)
    × (printed acts ≡ by job (run_line r) ∷ []))

-- the call that failed is the newest one
abbrev pub JoinFailed : Ending → List Act → Type 0
JoinFailed (Outside call) acts = FailedAtLast call acts
JoinFailed e acts = Unit {0}

-- Just the line of this report was printed. Where no step of others named a file of the three
-- folders, the archive that `joined` holds as it is printed is the join of the two, and the report
-- is of it.
pub record JoinWhole (w : JoinAsked) (earlier added : History) : Type 0 where
  pub report : JoinReport
  pub each : AreJoinActs (own_acts added)
  pub printed_is : printed (own_acts added) ≡ by job (run_line report) ∷ []
  pub shows : ShowsJoin w.left w.right (Ok report) added earlier

-- What an end shows: the join was refused so, which says what stood in the folders, or the print
-- failed.
pub record JoinCut (w : JoinAsked) (earlier : History) (e : Ending) (added : History) : Type 0 where
  pub fault : JoinFault
  pub is : e ≡ join_ending fault
  pub of : IsJoinEnding e
  pub last : JoinFailed e (own_acts added)
  pub each : AreJoinActs (own_acts added)
  pub at_most : JoinedAtMost (own_acts added)
  pub shows : ShowsJoin w.left w.right (Err fault) added earlier

-- what may still end it where no call failed: a book or a record that isn't in its grammar, the
-- last number, streams that differ
abbrev pub LeftOfJoin : JoinAsked → History → Ending → History → Type 0
LeftOfJoin w earlier (Damaged name at) added = JoinCut w earlier (Damaged name at) added
LeftOfJoin w earlier (Spent n) added = JoinCut w earlier (Spent n) added
LeftOfJoin w earlier (Differ source kind name at) added =
    JoinCut w earlier (Differ source kind name at) added
LeftOfJoin w earlier e added = ⊥
