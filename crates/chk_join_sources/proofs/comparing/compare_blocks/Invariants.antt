use Rattle.std.proofs.Common.{◌≡◌, ◌≤◌, ◌+◌, ◌-◌, ℕ, List}
use Rattle.chk_site.specs.Files.{Files}
use Rattle.chk_site.specs.History.{Every}
use Rattle.chk_site.specs.Site.{Adds}
use Rattle.chk_site.specs.Runs.{anyhow, Leads}
use Rattle.chk_world.specs.JobSteps.{IsOf, ReadsFile}
use Rattle.chk_record_index.specs.Pieces.{AsksInPieces}
use Rattle.chk_record_reader.specs.Segments.{HasFiles, SparesFiles, AreSettled}
use Rattle.chk_join_sources.specs.Differences.{first_difference}
use Rattle.chk_join_sources.specs.Comparing.{IsSide, AreTrue, values_between}
use Rattle.chk_join_sources.proofs.AllCompared.{ComparedSoFar}
use Rattle.chk_join_sources.proofs.comparing.compare_blocks.Given as goal

abbrev pub invariant-loop-at : goal.invariant-loop-at
invariant-loop-at g l = record {
  so : (most : ℕ) (all : List (List ℕ)) (held : Files) → most ≤ 1048576 → AreSettled all held → IsSide most all held l.left
      → IsSide most all held l.right → AreTrue l.left l.right held l.fn.readers
      → Adds (g.S.Site.told l.fn.site) (g.S.Site.told l.site)
      (Leads (anyhow (SparesFiles all)) (HasFiles all held)
      (ComparedSoFar all l.left l.right held l.readers (first_difference (values_between l.left held l.fn.first.first l.fn.first.end)
      (values_between l.right held l.fn.second.first l.fn.second.end)) l.at));
  own : Adds (g.S.Site.told l.fn.site) (g.S.Site.told l.site) (Every (IsOf ReadsFile));
  pieces : Adds (g.S.Site.told l.fn.site) (g.S.Site.told l.site) (Every AsksInPieces);
  count : g.S.Site.fault_count l.site ≡ g.S.Site.fault_count l.fn.site;
  left_end : l.at.left.end ≡ l.fn.first.end;
  right_end : l.at.right.end ≡ l.fn.second.end;
  left : l.at.left.index ≤ l.fn.first.end;
  right : l.at.right.index ≤ l.fn.second.end;
}

abbrev pub decreases-loop-at : goal.decreases-loop-at
decreases-loop-at g l = (l.fn.first.end + l.fn.second.end) - (l.at.left.index + l.at.right.index)
