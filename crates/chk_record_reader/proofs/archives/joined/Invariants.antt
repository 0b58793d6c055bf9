use Rattle.std.proofs.Common.{◌≡◌, ◌≤◌, ℕ}
use Rattle.chk_site.specs.Files.{Files}
use Rattle.chk_site.specs.History.{Every}
use Rattle.chk_site.specs.Site.{Adds}
use Rattle.chk_site.specs.Runs.{anyhow, Leads}
use Rattle.chk_world.specs.Sight.{job}
use Rattle.chk_world.specs.JobSteps.{IsOf, ReadsFile}
use Rattle.chk_record_index.specs.Pieces.{AsksInPieces}
use Rattle.chk_record_reader.specs.Streams.{stream_of}
use Rattle.chk_record_reader.specs.Segments.{SparesFiles, AreSettled}
use Rattle.chk_record_reader.specs.Archives.{CanJoin, HasSoFar}
use Rattle.chk_record_reader.proofs.archives.joined.Given as goal

abbrev pub invariant-loop-index : goal.invariant-loop-index
invariant-loop-index g l = record {
  so : (most : ℕ) (held : Files) → most ≤ 1048576 → AreSettled l.names held
      → Adds (g.S.Site.told l.fn.site) (g.S.Site.told l.site)
      (Leads (anyhow (SparesFiles l.names)) (CanJoin most l.names held l.heads)
      (HasSoFar (stream_of l.stream) most l.names held l.heads l.reader l.bytes l.index));
  own : l.who ≡ job → Adds (g.S.Site.told l.fn.site) (g.S.Site.told l.site) (Every
      (IsOf ReadsFile));
  pieces : Adds (g.S.Site.told l.fn.site) (g.S.Site.told l.site) (Every AsksInPieces);
  count : g.S.Site.fault_count l.site ≡ g.S.Site.fault_count l.fn.site;
}
