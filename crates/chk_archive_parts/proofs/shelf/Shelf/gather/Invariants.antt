use Rattle.std.proofs.Common.{◌≡◌, List}
use Rattle.chk_site.specs.History.{Every}
use Rattle.chk_site.specs.Site.{Adds}
use Rattle.chk_site.specs.Runs.{anyhow, Leads}
use Rattle.chk_chunk.specs.Keys.{Chunk}
use Rattle.chk_world.specs.Sight.{Sight}
use Rattle.chk_world.specs.JobSteps.{IsOf, ReadsFile}
use Rattle.chk_record_index.specs.Pieces.{AsksInPieces}
use Rattle.chk_record_reader.specs.Segments.{SparesFiles}
use Rattle.chk_archive_parts.specs.Records.{AreRecords}
use Rattle.chk_archive_parts.specs.Shelves.{CanShelve}
use Rattle.chk_archive_parts.proofs.shelf.Shelf.gather.Given as goal

abbrev pub invariant-loop-number : goal.invariant-loop-number
invariant-loop-number g l = record {
  raw : (v : Sight) (cs : List Chunk) → AreRecords v l.files l.heads cs
      → Adds (g.S.Site.told l.fn.site) (g.S.Site.told l.site)
      (Leads (anyhow (SparesFiles l.files)) (CanShelve v l.files l.heads l.fn.self)
      (CanShelve v l.files l.heads l.self));
  own : Adds (g.S.Site.told l.fn.site) (g.S.Site.told l.site) (Every (IsOf ReadsFile));
  pieces : Adds (g.S.Site.told l.fn.site) (g.S.Site.told l.site) (Every AsksInPieces);
  count : g.S.Site.fault_count l.site ≡ g.S.Site.fault_count l.fn.site;
}
