use Rattle.std.proofs.Common.{◌≡◌, ◌≤◌, ◌+◌, ◌-◌, ℕ, List, length, map}
use Rattle.chk_site.specs.Files.{Files}
use Rattle.chk_site.specs.History.{Every}
use Rattle.chk_site.specs.Site.{Adds}
use Rattle.chk_site.specs.Runs.{anyhow, Leads}
use Rattle.chk_world.specs.JobSteps.{IsOf, ReadsFile}
use Rattle.chk_record_index.specs.Pieces.{AsksInPieces}
use Rattle.chk_book.specs.Views.{end_view}
use Rattle.chk_record_reader.specs.Segments.{HasFiles, SparesFiles, AreSettled}
use Rattle.chk_join_sources.specs.Pairs.{pairs_of, pairs_left}
use Rattle.chk_join_sources.specs.Choosing.{IsSideInOrder}
use Rattle.chk_join_sources.proofs.PairsCompared.{ComparedUpTo}
use Rattle.chk_join_sources.proofs.Planned.{IsPlannedUpTo}
use Rattle.chk_join_sources.proofs.choosing.choose.Given as goal

abbrev pub invariant-loop-alloc : goal.invariant-loop-alloc
invariant-loop-alloc g l = record {
  so : (most : ℕ) (all : List (List ℕ)) (held : Files) → most ≤ 1048576 → AreSettled all held → IsSideInOrder most all held l.left
      → IsSideInOrder most all held l.right
      → Adds (g.S.Site.told l.fn.site) (g.S.Site.told l.site)
      (Leads (anyhow (SparesFiles all)) (HasFiles all held)
      (ComparedUpTo all l.left l.right held (pairs_of (map end_view l.lefts) (map end_view l.rights)) l.readers
      (pairs_left (map end_view l.lefts) (map end_view l.rights) l.at)));
  planned : IsPlannedUpTo l.left.heads.now l.right.heads.now (pairs_of (map end_view l.lefts) (map end_view l.rights))
      (pairs_left (map end_view l.lefts) (map end_view l.rights) l.at) l.plan;
  own : Adds (g.S.Site.told l.fn.site) (g.S.Site.told l.site) (Every (IsOf ReadsFile));
  pieces : Adds (g.S.Site.told l.fn.site) (g.S.Site.told l.site) (Every AsksInPieces);
  count : g.S.Site.fault_count l.site ≡ g.S.Site.fault_count l.fn.site;
  left : l.at.left ≤ length l.lefts;
  right : l.at.right ≤ length l.rights;
}

abbrev pub decreases-loop-alloc : goal.decreases-loop-alloc
decreases-loop-alloc g l = (length l.lefts + length l.rights) - (l.at.left + l.at.right)
