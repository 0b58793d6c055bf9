use Rattle.std.proofs.Common.{◌≡◌, [], length, take, Ok}
use Rattle.chk_site.specs.Files.{Files}
use Rattle.chk_site.specs.Site.{Adds}
use Rattle.chk_site.specs.Runs.{anyhow, Leads}
use Rattle.chk_world.specs.JobSteps.{ReadsFile}
use Rattle.chk_record_index.specs.Faults.{Worked}
use Rattle.chk_record_reader.specs.Segments.{HasFiles, SparesFiles, AreSettled}
use Rattle.chk_archive_merge.specs.Sides.{AreSides}
use Rattle.chk_archive_merge.proofs.merging.open_all.Given as goal

abbrev pub invariant-loop-name : goal.invariant-loop-name
invariant-loop-name g l = record {
  so : (held : Files) → AreSettled l.names held → Adds (g.S.Site.told l.fn.site) (g.S.Site.told l.site)
      (Leads (anyhow (SparesFiles l.names)) (HasFiles l.names held)
      (λ h. HasFiles l.names held h × AreSides l.most held 0 (take l.name-index l.names) l.cursors.items []));
  size : length l.cursors.items ≡ l.name-index;
  works : Adds (g.S.Site.told l.fn.site) (g.S.Site.told l.site) (Worked {T = Unit {0}} ReadsFile (Ok tt));
  count : g.S.Site.fault_count l.site ≡ g.S.Site.fault_count l.fn.site;
}
