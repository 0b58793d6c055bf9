use Rattle.std.proofs.Common.{◌≡◌, ℕ, List, Ok}
use Rattle.std.specs.Prelude.{Contains}
use Rattle.chk_site.specs.Files.{Files}
use Rattle.chk_site.specs.Effect.{IsSmallFile}
use Rattle.chk_site.specs.Site.{Adds}
use Rattle.chk_site.specs.Runs.{anyhow, Leads}
use Rattle.chk_world.specs.JobSteps.{ReadsFile}
use Rattle.chk_record_index.specs.Faults.{Worked}
use Rattle.chk_record_reader.specs.Segments.{HasFiles, SparesFiles}
use Rattle.chk_archive_merge.proofs.Onward.{Keeps}
use Rattle.chk_archive_merge.proofs.cursor.Cursor.advance.Given as goal

abbrev pub invariant-loop-turn : goal.invariant-loop-turn
invariant-loop-turn g l = record {
  so : (names : List (List ℕ)) (held : Files) → Contains names l.name → IsSmallFile (held l.name)
      → Adds (g.S.Site.told l.fn.site) (g.S.Site.told l.site)
      (Leads (anyhow (SparesFiles names)) (HasFiles names held)
      (λ h. HasFiles names held h × Keeps names held l.name l.fn.self l.self));
  works : Adds (g.S.Site.told l.fn.site) (g.S.Site.told l.site) (Worked {T = Unit {0}} ReadsFile (Ok tt));
  count : g.S.Site.fault_count l.site ≡ g.S.Site.fault_count l.fn.site;
}
