use Rattle.std.proofs.Common.{◌≡◌, ℕ, List, take}
use Rattle.chk_site.specs.History.{Every}
use Rattle.chk_site.specs.Site.{Adds}
use Rattle.chk_site.specs.Runs.{anyhow, Leads}
use Rattle.chk_site.specs.Files.{Files}
use Rattle.chk_chunk.specs.Keys.{chunk_limit}
use Rattle.chk_record_reader.specs.Segments.{HasFiles, SparesFiles, AreSettled}
use Rattle.chk_record_reader.proofs.AllGathered.{HasHeads as HeadsSoFar}
use Rattle.chk_world.specs.Places.{As}
use Rattle.chk_world.specs.Sight.{job, Sight}
use Rattle.chk_world.specs.JobSteps.{IsOf, ReadsFile}
use Rattle.chk_record_index.specs.Pieces.{AsksInPieces}
use Rattle.chk_record_index.specs.ShownHeads.{ShowAll}
use Rattle.chk_archive_parts.specs.Gathering.{AreSound}
use Rattle.chk_archive_parts.proofs.OneFile.{Knows}
use Rattle.chk_archive_parts.proofs.AllFiles.{HasHeads}
use Rattle.chk_archive_parts.proofs.gathering.gather_found.Given as goal

abbrev pub invariant-loop-name : goal.invariant-loop-name
invariant-loop-name g l = record {
  so_far : (stamped : List (List ℕ)) (v : Sight) → AreSound v l.names
      → Adds (g.S.Site.told l.fn.site) (g.S.Site.told l.site)
      (Leads (As stamped job) (Knows stamped v)
      (HasHeads stamped v (take l.name-index l.names) l.heads));
  raw_so_far : (held : Files) → AreSettled l.names held → Adds (g.S.Site.told l.fn.site) (g.S.Site.told l.site)
      (Leads (anyhow (SparesFiles l.names)) (HasFiles l.names held)
      (HeadsSoFar chunk_limit l.names held (take l.name-index l.names) l.heads));
  own : Adds (g.S.Site.told l.fn.site) (g.S.Site.told l.site) (Every (IsOf ReadsFile));
  pieces : Adds (g.S.Site.told l.fn.site) (g.S.Site.told l.site) (Every AsksInPieces);
  shown : Adds (g.S.Site.told l.fn.site) (g.S.Site.told l.site) (ShowAll chunk_limit 0 (take l.name-index l.names) l.heads);
  number : l.file ≡ l.name-index;
  count : g.S.Site.fault_count l.site ≡ g.S.Site.fault_count l.fn.site;
}
