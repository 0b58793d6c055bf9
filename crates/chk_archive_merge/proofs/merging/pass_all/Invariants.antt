use Rattle.std.proofs.Common.{◌≡◌, length, Ok}
use Rattle.chk_site.specs.Files.{Files}
use Rattle.chk_site.specs.Site.{Adds}
use Rattle.chk_site.specs.Runs.{anyhow, Leads}
use Rattle.chk_world.specs.JobSteps.{ReadsFile}
use Rattle.chk_record_index.specs.Faults.{Worked}
use Rattle.chk_record_reader.specs.Segments.{HasFiles, SparesFiles, AreSettled}
use Rattle.chk_archive_merge.proofs.merging.pass_all.Given as goal

abbrev pub invariant-loop-turn : goal.invariant-loop-turn
invariant-loop-turn g l = record {
  so : (held : Files) → AreSettled l.names held → Adds (g.S.Site.told l.fn.site) (g.S.Site.told l.site)
      (Leads (anyhow (SparesFiles l.names)) (HasFiles l.names held) (HasFiles l.names held));
  size : length l.cursors ≡ length l.names;
  works : Adds (g.S.Site.told l.fn.site) (g.S.Site.told l.site) (Worked {T = Unit {0}} ReadsFile (Ok tt));
  count : g.S.Site.fault_count l.site ≡ g.S.Site.fault_count l.fn.site;
}
