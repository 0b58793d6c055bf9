use Rattle.std.proofs.Common.{length, ◌-◌, ◌≡◌, ◌≤◌, ◌++◌, ℕ, Bool, List, take, Ok}
use Rattle.std.specs.Prelude.{codes}
use Rattle.chk_site.specs.Site.{Adds}
use Rattle.chk_site.specs.Runs.{Leads}
use Rattle.chk_chunk.specs.Keys.{Chunk}
use Rattle.chk_world.specs.Places.{As}
use Rattle.chk_world.specs.Sight.{job, Sight, AtJob}
use Rattle.chk_world.specs.JobSteps.{WritesTo}
use Rattle.chk_book.specs.Folders.{segment_name}
use Rattle.chk_book.specs.Books.{book_view}
use Rattle.chk_book.specs.Views.{end_view}
use Rattle.chk_demux.specs.Working.{Worked}
use Rattle.chk_demux.specs.Writes.{IsFree, IsWriter, IsOutput}
use Rattle.chk_demux.specs.Shown.{PutsIf}
use Rattle.chk_demux.specs.Due.{HasRecord}
use Rattle.chk_demux.specs.Giving.{IsSplitting, IsPlaced, chunks_of_fed}
use Rattle.chk_demux.proofs.giving.split_value.Given as goal

abbrev pub invariant-loop-at : goal.invariant-loop-at
invariant-loop-at g l = record {
  within : l.at ≤ length l.value;
  splits : (t : Bool) (fed : List ℕ) → IsSplitting t fed l.fn.splitter
      → IsSplitting t (fed ++ take l.at l.value) l.splitter;
  due : (t : Bool) (fed : List ℕ) → IsSplitting t fed l.fn.splitter
      → PutsIf (HasRecord t (fed ++ take l.at l.value)) l.fn.output.entries l.output.entries;
  so_far : (stamped : List (List ℕ)) (v : Sight) (outs : List Chunk) (from : ℕ) (t : Bool) (fed : List ℕ)
      → IsFree v (book_view l.book).next → IsSplitting t fed l.fn.splitter
      → IsPlaced l.heads (end_view l.end) l.index from (fed ++ l.value)
      → Adds (g.S.Site.told l.fn.site) (g.S.Site.told l.site) (Leads (As stamped job)
      (AtJob stamped (IsOutput v (outs ++ chunks_of_fed l.heads (end_view l.end) from t fed) l.fn.output))
      (AtJob stamped (IsOutput v (outs ++ chunks_of_fed l.heads (end_view l.end) from t (fed ++ take l.at l.value)) l.output)));
  writer : IsWriter (book_view l.book).next l.output.segmenter;
  works : Adds (g.S.Site.told l.fn.site) (g.S.Site.told l.site)
      (Worked {T = Unit {0}} (WritesTo (segment_name (codes "demux") (book_view l.book).next)) (Ok tt));
  count : g.S.Site.fault_count l.site ≡ g.S.Site.fault_count l.fn.site;
}

abbrev pub decreases-loop-at : goal.decreases-loop-at
decreases-loop-at g l = length l.value - l.at
