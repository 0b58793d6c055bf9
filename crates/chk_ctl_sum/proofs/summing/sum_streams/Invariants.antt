use Rattle.std.proofs.Common.{◌≡◌, ◌≤◌, ℕ, List, map, take, length}
use Rattle.chk_site.specs.Files.{Files}
use Rattle.chk_site.specs.History.{Every}
use Rattle.chk_site.specs.Site.{Adds}
use Rattle.chk_site.specs.Runs.{anyhow, Leads}
use Rattle.chk_world.specs.JobSteps.{IsOf, ReadsFile}
use Rattle.chk_record_reader.specs.Segments.{HasFiles, SparesFiles, AreSettled}
use Rattle.chk_join_sources.specs.Blocks.{StreamsRise}
use Rattle.chk_join_sources.specs.Comparing.{IsSide}
use Rattle.chk_ctl_sum.specs.Summing.{digest_of}
use Rattle.chk_ctl_sum.proofs.Steps.{SoFar}
use Rattle.chk_ctl_sum.proofs.summing.sum_streams.Given as goal

abbrev pub invariant-loop-rest : goal.invariant-loop-rest
invariant-loop-rest g l = record {
  so : (most : ℕ) (all : List (List ℕ)) (held : Files) → most ≤ 1048576 → AreSettled all held
      → IsSide most all held l.side → StreamsRise l.side.heads.now
      → Adds (g.S.Site.told l.fn.site) (g.S.Site.told l.site)
      (Leads (anyhow (SparesFiles all)) (HasFiles all held)
      (SoFar all held l.side (map (digest_of l.side held)
      (take l.rest-index l.rests)) l.reader l.digests));
  own : Adds (g.S.Site.told l.fn.site) (g.S.Site.told l.site) (Every (IsOf ReadsFile));
  count : g.S.Site.fault_count l.site ≡ g.S.Site.fault_count l.fn.site;
  number : length l.digests ≡ l.rest-index;
}
