-- The end of a round: the collector closes its sink, and the archive job runs once.
use Rattle.std.specs.Prelude.{ℕ, List, Result, Ok, Err}
use Rattle.chk_site.specs.History.{History}
use Rattle.chk_world.specs.Books.{Book}
use Rattle.chk_world.specs.Places.{AtTold}
use Rattle.chk_world.specs.Rules.{Legal}
use Rattle.chk_world.specs.Sight.{job}
use Rattle.chk_sink.specs.Held.{Matches as SinksMatch}
use Rattle.chk_sink.specs.States.{State as Sinks}
use Rattle.chk_agent.specs.Facts.{Matches as AgentMatches}
use Rattle.chk_agent.specs.States.{State as Agents}
use Rattle.chk_archive.specs.declared.report.Report.{Report}
use Rattle.chk_archive.specs.Archived.{RunDone}
use Rattle.chk_archive.specs.Reporting.{report_view}
use Rattle.chk_round.specs.declared.faults.RoundFault.{RoundFault}
use Rattle.chk_round.specs.declared.faults.RoundFault.TheVariants.{Damaged, Length, Shrank, Spent, Checkpoint, Refused}
use Rattle.chk_round.specs.Joint.{OnlyStopped}
use Rattle.chk_round.specs.Spent.{IsSpentArchive}

-- the run of the archive job that began with the last listing of the sinks is this one
abbrev pub HasRun : Report → History → Type 0
HasRun r history = (loaded : Book) × RunDone loaded (report_view r) history

-- At Ok the run is done, and sinks and agent know the history. Nothing of the program's own is ever
-- damaged, and numbers are spent only where the archive has none left.
-- No poll is made.
abbrev pub Closed : List (List ℕ) → Sinks → Agents → Result Report RoundFault → History → Type 0
Closed stamped s a (Ok r) history =
    AtTold stamped job (HasRun r) history × (SinksMatch stamped s history × AgentMatches stamped a history)
Closed stamped s a (Err (Damaged name at)) history = OnlyStopped stamped history
Closed stamped s a (Err (Checkpoint at)) history = OnlyStopped stamped history
Closed stamped s a (Err (Refused code)) history = OnlyStopped stamped history
Closed stamped s a (Err (Length stem got want)) history = ⊥
Closed stamped s a (Err (Shrank path had is)) history = OnlyStopped stamped history
Closed stamped s a (Err (Spent n)) history = AtTold stamped job (IsSpentArchive n) history
Closed stamped s a (Err fault) history = Legal stamped history
