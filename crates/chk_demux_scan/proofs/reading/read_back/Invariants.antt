use Rattle.std.proofs.Common.{◌≡◌, ◌≤◌, ℕ, length, map, drop}
use Rattle.std.specs.Prelude.{IsTrue}
use Rattle.chk_site.specs.Files.{Files}
use Rattle.chk_site.specs.History.{Every}
use Rattle.chk_site.specs.Site.{Adds}
use Rattle.chk_site.specs.Runs.{anyhow, Leads}
use Rattle.chk_world.specs.Books.{ends_rise}
use Rattle.chk_world.specs.JobSteps.{IsOf, ReadsFile}
use Rattle.chk_record_index.specs.Pieces.{AsksInPieces}
use Rattle.chk_book.specs.Views.{end_view}
use Rattle.chk_record_reader.specs.Segments.{HasFiles, SparesFiles, AreSettled}
use Rattle.chk_demux_scan.specs.Newest.{SoFar, ShowsFrom}
use Rattle.chk_demux_scan.proofs.reading.read_back.Given as goal

abbrev pub invariant-loop-index : goal.invariant-loop-index
invariant-loop-index g l = record {
  low : l.index ≤ length l.names;
  same : length l.begins.items ≡ length l.ends;
  so_far : (held : Files) (k : ℕ) → IsTrue (ends_rise (map end_view l.ends)) → k ≤ length l.names
      → AreSettled (drop k l.names) held → Adds (g.S.Site.told l.fn.site) (g.S.Site.told l.site)
      (Leads (anyhow (SparesFiles (drop k l.names))) (HasFiles (drop k l.names) held)
      (SoFar (map end_view l.ends) l.places l.names held k l.index l.heads l.begins.items));
  shown : IsTrue (ends_rise (map end_view l.ends))
      → Adds (g.S.Site.told l.fn.site) (g.S.Site.told l.site)
      (ShowsFrom (map end_view l.ends) l.places l.names l.index l.heads l.begins.items);
  own : Adds (g.S.Site.told l.fn.site) (g.S.Site.told l.site) (Every (IsOf ReadsFile));
  pieces : Adds (g.S.Site.told l.fn.site) (g.S.Site.told l.site) (Every AsksInPieces);
  count : g.S.Site.fault_count l.site ≡ g.S.Site.fault_count l.fn.site;
}
