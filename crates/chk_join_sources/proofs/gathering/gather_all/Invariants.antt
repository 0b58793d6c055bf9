use Rattle.std.proofs.Common.{◌≡◌, take}
use Rattle.chk_site.specs.Files.{Files}
use Rattle.chk_site.specs.History.{Every}
use Rattle.chk_site.specs.Site.{Adds}
use Rattle.chk_site.specs.Runs.{anyhow, Leads}
use Rattle.chk_world.specs.Sight.{job}
use Rattle.chk_world.specs.JobSteps.{IsOf, ReadsFile}
use Rattle.chk_record_index.specs.Pieces.{AsksInPieces}
use Rattle.chk_record_reader.specs.Segments.{HasFiles, SparesFiles, AreSettled}
use Rattle.chk_record_reader.proofs.AllGathered.{HasHeads}
use Rattle.chk_join_sources.proofs.gathering.gather_all.Given as goal

abbrev pub invariant-loop-name : goal.invariant-loop-name
invariant-loop-name g l = record {
  so_far : (held : Files) → l.who ≡ job → AreSettled l.names held
      → Adds (g.S.Site.told l.fn.site) (g.S.Site.told l.site)
      (Leads (anyhow (SparesFiles l.names)) (HasFiles l.names held) (HasHeads l.most l.names held
      (take l.name-index l.names) l.heads));
  own : l.who ≡ job → Adds (g.S.Site.told l.fn.site) (g.S.Site.told l.site) (Every
      (IsOf ReadsFile));
  pieces : Adds (g.S.Site.told l.fn.site) (g.S.Site.told l.site) (Every AsksInPieces);
  number : l.file ≡ l.name-index;
  count : g.S.Site.fault_count l.site ≡ g.S.Site.fault_count l.fn.site;
}
