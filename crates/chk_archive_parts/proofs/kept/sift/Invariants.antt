use Rattle.std.proofs.Common.{◌≡◌, ◌≤◌, List, length}
use Rattle.chk_site.specs.History.{Every}
use Rattle.chk_site.specs.Site.{Adds}
use Rattle.chk_site.specs.Runs.{anyhow, Leads}
use Rattle.chk_chunk.specs.Keys.{Chunk}
use Rattle.chk_world.specs.Sight.{Sight}
use Rattle.chk_world.specs.JobSteps.{IsOf, ReadsFile}
use Rattle.chk_record_index.specs.Pieces.{AsksInPieces}
use Rattle.chk_archive_plan.proofs.ChunkOrder.{Ordered}
use Rattle.chk_record_reader.specs.Segments.{HasFiles, SparesFiles}
use Rattle.chk_archive_parts.specs.Cuts.{cut_chunks}
use Rattle.chk_archive_parts.specs.Gathering.{held}
use Rattle.chk_archive_parts.specs.Records.{AreRecords}
use Rattle.chk_archive_parts.specs.Kept.{AreWhole, AreKeptOf, CanFind}
use Rattle.chk_archive_parts.proofs.Sifting.{SiftedTo}
use Rattle.chk_archive_parts.proofs.kept.sift.Given as goal

abbrev pub invariant-loop-place : goal.invariant-loop-place
invariant-loop-place g l = record {
  raw : (v : Sight) (cs : List Chunk) → AreRecords v l.files l.heads cs → Ordered (cut_chunks cs l.past)
      → Adds (g.S.Site.told l.fn.site) (g.S.Site.told l.site)
      (Leads (anyhow (SparesFiles l.files)) (HasFiles l.files (held v))
      (λ h. CanFind v l.files l.old l.new h × SiftedTo cs l.past l.cuts l.place l.group));
  low : l.group ≤ length l.cuts;
  whole : AreWhole (length l.heads) l.cuts;
  kept : AreKeptOf l.heads l.past l.place l.cuts;
  own : Adds (g.S.Site.told l.fn.site) (g.S.Site.told l.site) (Every (IsOf ReadsFile));
  pieces : Adds (g.S.Site.told l.fn.site) (g.S.Site.told l.site) (Every AsksInPieces);
  count : g.S.Site.fault_count l.site ≡ g.S.Site.fault_count l.fn.site;
}
