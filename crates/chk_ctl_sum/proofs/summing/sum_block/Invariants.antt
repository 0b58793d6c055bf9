use Rattle.std.proofs.Common.{◌≡◌, ◌≤◌, ℕ, List}
use Rattle.chk_site.specs.Files.{Files}
use Rattle.chk_site.specs.History.{Every}
use Rattle.chk_site.specs.Site.{Adds}
use Rattle.chk_site.specs.Runs.{anyhow, Leads}
use Rattle.chk_world.specs.JobSteps.{IsOf, ReadsFile}
use Rattle.chk_record_reader.specs.Segments.{SparesFiles, AreSettled}
use Rattle.chk_join_sources.specs.Comparing.{IsSide, values_between}
use Rattle.chk_ctl_sum.specs.Summing.{CanSum, HasSummed}
use Rattle.chk_ctl_sum.proofs.summing.sum_block.Given as goal

abbrev pub invariant-loop-index : goal.invariant-loop-index
invariant-loop-index g l = record {
  so : (most : ℕ) (all : List (List ℕ)) (held : Files) → most ≤ 1048576 → AreSettled all held
      → IsSide most all held l.side → Adds (g.S.Site.told l.fn.site) (g.S.Site.told l.site)
      (Leads (anyhow (SparesFiles all)) (CanSum all held l.side l.fn.reader)
      (HasSummed all held l.side l.skip (values_between l.side held l.fn.block.first l.index)
      l.reader l.hasher));
  own : Adds (g.S.Site.told l.fn.site) (g.S.Site.told l.site) (Every (IsOf ReadsFile));
  count : g.S.Site.fault_count l.site ≡ g.S.Site.fault_count l.fn.site;
  low : l.fn.block.first ≤ l.index;
  high : l.index ≤ l.fn.block.end;
}
