use Rattle.std.proofs.Common.{◌≡◌, length, map, Ok}
use Rattle.chk_site.specs.Files.{Files}
use Rattle.chk_site.specs.Site.{Adds}
use Rattle.chk_site.specs.Runs.{anyhow, Leads}
use Rattle.chk_world.specs.JobSteps.{ReadsOrWrites}
use Rattle.chk_record_index.specs.Faults.{Worked}
use Rattle.chk_book.specs.Folders.{segment_name, most_in}
use Rattle.chk_book.specs.Segmenting.{Writing, begun}
use Rattle.chk_book.specs.Views.{end_view}
use Rattle.chk_book.specs.Written.{IsAt}
use Rattle.chk_record_reader.specs.Segments.{AreSettled}
use Rattle.chk_record_reader.specs.Merging.{SparesBoth, AreApart}
use Rattle.chk_archive_merge.specs.Merges.{CanTour, IsMerging}
use Rattle.chk_archive_merge.proofs.merging.write_all.Given as goal

abbrev pub invariant-loop-turn : goal.invariant-loop-turn
invariant-loop-turn g l = record {
  so : (v : Writing) × IsAt l.segmenter v × (v.folder ≡ l.folder) × (v.number ≡ l.next)
      × ((held : Files) → AreSettled l.names held → AreApart l.names (segment_name l.folder l.next)
      → Adds (g.S.Site.told l.fn.site) (g.S.Site.told l.site)
      (Leads (anyhow (SparesBoth l.names (segment_name l.folder l.next))) (CanTour (most_in l.folder) l.names held (begun l.folder l.next) l.fn.cursors)
      (IsMerging (most_in l.folder) l.names held (map end_view l.ends) l.tour l.cursors v)));
  who : l.segmenter.who ≡ l.fn.segmenter.who;
  size : length l.cursors ≡ length l.names;
  works : Adds (g.S.Site.told l.fn.site) (g.S.Site.told l.site) (Worked {T = Unit {0}} (ReadsOrWrites (segment_name l.folder l.next)) (Ok tt));
  count : g.S.Site.fault_count l.site ≡ g.S.Site.fault_count l.fn.site;
}
