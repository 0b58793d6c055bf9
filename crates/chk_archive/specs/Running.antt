-- The parts of one archive run.
use Rattle.std.specs.Prelude.{ℕ, IsTrue, List, Result, Ok, Err}
use Rattle.chk_site.specs.Acts.{Deed, Removes}
use Rattle.chk_site.specs.History.{History}
use Rattle.chk_world.specs.ArchiveRuns.{is_closed, sink_path}
use Rattle.chk_world.specs.Books.{Book}
use Rattle.chk_world.specs.Sight.{AtJob}
use Rattle.chk_record_index.specs.declared.fault.JobFault.{JobFault}
use Rattle.chk_archive.specs.Archived.{Archived, MergesBy}
use Rattle.chk_archive.specs.Merged.{IsMerged}

-- at Ok this is the archive's book, as the merging left it; a refusal is one of the whole run
abbrev pub Settled : List (List ℕ) → Book → Result Book JobFault → History → Type 0
Settled stamped loaded (Ok b) history = AtJob stamped (IsMerged loaded b) history
Settled stamped loaded (Err fault) history = Archived stamped loaded (Err fault) history

-- the calls behind the listing of the sinks
pub data FinishesBy : Deed → Type 0 where
  takes_by : (call : Deed) → MergesBy call → FinishesBy call
  removes_closed : (name : List ℕ) → IsTrue (is_closed name) → FinishesBy (Removes (sink_path name))
