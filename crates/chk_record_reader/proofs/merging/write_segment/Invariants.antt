use Rattle.std.proofs.Common.{◌≡◌}
use Rattle.chk_site.specs.Files.{Files}
use Rattle.chk_site.specs.History.{Every}
use Rattle.chk_site.specs.Site.{Adds}
use Rattle.chk_site.specs.Runs.{anyhow, Leads}
use Rattle.chk_world.specs.Sight.{job}
use Rattle.chk_world.specs.JobSteps.{IsOf, ReadsOrWrites}
use Rattle.chk_record_index.specs.Pieces.{AsksInPieces}
use Rattle.chk_book.specs.Folders.{segment_name, most_in}
use Rattle.chk_book.specs.Segmenting.{Writing}
use Rattle.chk_book.specs.Written.{IsAt}
use Rattle.chk_record_reader.specs.Segments.{AreSettled}
use Rattle.chk_record_reader.specs.Merging.{SparesBoth, AreApart, CanBegin, CanWrite}
use Rattle.chk_record_reader.proofs.merging.write_segment.Given as goal

abbrev pub invariant-loop-index : goal.invariant-loop-index
invariant-loop-index g l = record {
  so : (w : Writing) × IsAt l.segmenter w × (w.folder ≡ l.folder) × (w.number ≡ l.merged.next)
      × ((held : Files) → l.who ≡ job → AreSettled l.names held → AreApart l.names (segment_name w.folder w.number)
      → Adds (g.S.Site.told l.fn.site) (g.S.Site.told l.site)
      (Leads (anyhow (SparesBoth l.names (segment_name w.folder w.number))) (CanBegin (most_in l.folder) l.names held l.heads)
      (CanWrite (most_in l.folder) l.names held l.heads l.reader w l.index)));
  who : l.segmenter.who ≡ l.who;
  own : l.who ≡ job → Adds (g.S.Site.told l.fn.site) (g.S.Site.told l.site) (Every (IsOf
      (ReadsOrWrites (segment_name l.folder l.merged.next))));
  pieces : l.who ≡ job → Adds (g.S.Site.told l.fn.site) (g.S.Site.told l.site) (Every AsksInPieces);
  made : Adds (g.S.Site.told l.fn.site) (g.S.Site.told l.site) (λ added history. Unit {0});
  count : g.S.Site.fault_count l.site ≡ g.S.Site.fault_count l.fn.site;
}
