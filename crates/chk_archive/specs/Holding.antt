-- How many chunks a run sets aside, whatever was told before.
use Rattle.std.specs.Prelude.{◌≡◌, ℕ, List, ◌++◌, length, Result, Ok, Err}
use Rattle.chk_site.specs.History.{History}
use Rattle.chk_site.specs.Runs.{anyhow, Leads}
use Rattle.chk_chunk.specs.Keys.{Chunk}
use Rattle.chk_world.specs.ArchiveRuns.{in_order, once}
use Rattle.chk_world.specs.Books.{Book}
use Rattle.chk_world.specs.Sight.{Sight}
use Rattle.chk_record_index.specs.Heads.{Head}
use Rattle.chk_record_index.specs.Order.{in_head_order}
use Rattle.chk_record_index.specs.declared.fault.JobFault.{JobFault}
use Rattle.chk_record_reader.specs.Segments.{HasFiles, SparesFiles, AreSettled}
use Rattle.chk_archive_parts.specs.Gathering.{held, AreSound, heads_of}
use Rattle.chk_archive_parts.specs.Kept.{past_chunks}
use Rattle.chk_archive_parts.specs.Records.{found_in}
use Rattle.chk_archive.specs.Listed.{sources_in}
use Rattle.chk_archive.specs.Shown.{ShowsLoaded, IsInHand, GaveNames}
use Rattle.chk_archive.specs.Taking.{IsPlanned}
use Rattle.chk_archive.specs.declared.report.Report.{Report as Struct}
use Rattle.chk_archive.specs.declared.taking.Planned.{Planned}
use Rattle.chk_archive.specs.declared.taking.Taken.{Taken}

-- By a plan over heads in order, of which these are the chunks, so many lie past the gaps of their
-- streams, each counted once by stream, sequence id and data.
pub record AreHeld (b : Book) (heads : List Head) (cs : List Chunk) (count : ℕ) : Type 0 where
  pub planned : Planned
  pub is : IsPlanned b heads planned
  pub are : count ≡ length (once (past_chunks cs planned.spans.items))

-- at Ok so many are set aside
abbrev pub HoldsOnce : Book → List Head → List Chunk → Result Taken JobFault → History → Type 0
HoldsOnce b heads cs (Ok t) history = AreHeld b heads cs t.held
HoldsOnce b heads cs (Err fault) history = Unit {0}

-- the same of all records that stand in these files, as they are known
abbrev pub AreHeldIn : Book → Sight → List (List ℕ) → ℕ → Type 0
AreHeldIn b v files count =
    AreHeld b (in_head_order (heads_of v 0 files)) (in_order (found_in v files)) count

abbrev pub ReportsHeld : Book → Sight → List (List ℕ) → Result Struct JobFault → History → Type 0
ReportsHeld b v files (Ok r) history = AreHeldIn b v files r.held
ReportsHeld b v files (Err fault) history = Unit {0}

-- where these files are such, and others leave them, so many are set aside at the end
abbrev pub HeldIfLeft : Book → List (List ℕ) → Result Struct JobFault → History → History → Type 0
HeldIfLeft b files r added history = (v : Sight) → AreSound v files → AreSettled files (held v)
    → Leads (anyhow (SparesFiles files)) (HasFiles files (held v)) (ReportsHeld b v files r)
    added history

-- There was a moment behind the listing of the sinks, by which own reads had shown the archive's
-- book, from which on this is so of the aside segment and the done sinks that the listing gave, by
-- the book in hand.
pub record HeldSince (r : Result Struct JobFault) (added history : History) : Type 0 where
  pub later : History
  pub earlier : History
  pub steps : added ≡ later ++ earlier
  pub loaded : Book
  pub shown : ShowsLoaded loaded earlier history
  pub book : Book
  pub in_hand : IsInHand loaded book
  pub names : List (List ℕ)
  pub gave : GaveNames names earlier history
  pub holds : HeldIfLeft book (sources_in book names) r later (earlier ++ history)

-- so it is at Ok
abbrev pub ShowsHeld : Result Struct JobFault → History → History → Type 0
ShowsHeld (Ok r) added history = HeldSince (Ok r) added history
ShowsHeld (Err fault) added history = Unit {0}
