use Rattle.std.proofs.Common.{◌≡◌, take}
use Rattle.chk_site.specs.History.{Every}
use Rattle.chk_site.specs.Site.{Adds}
use Rattle.chk_site.specs.Runs.{anyhow, Leads}
use Rattle.chk_chunk.specs.Lent.{chunks_of}
use Rattle.chk_world.specs.Sight.{job}
use Rattle.chk_world.specs.JobSteps.{IsOf, WritesTo, SparesFile}
use Rattle.chk_book.specs.Folders.{segment_name}
use Rattle.chk_book.specs.Segmenting.{Writing, HoldsSegment}
use Rattle.chk_book.specs.Written.{IsAt}
use Rattle.chk_book.proofs.book.Book.add_segment.Given as goal

abbrev pub invariant-loop-part : goal.invariant-loop-part
invariant-loop-part g l =
    let name = segment_name l.folder l.self.next in
    record {
      so : (w : Writing) × (at : IsAt l.segmenter w) × (w.folder ≡ l.folder) × (w.number ≡ l.self.next)
          × (w.chunks ≡ chunks_of (take l.part-index l.parts))
          × Adds (g.S.Site.told l.fn.site) (g.S.Site.told l.site) (Leads (anyhow (SparesFile name)) (λ h. Unit {0}) (HoldsSegment w));
      who : l.segmenter.who ≡ l.who;
      own : l.who ≡ job → Adds (g.S.Site.told l.fn.site) (g.S.Site.told l.site) (Every (IsOf (WritesTo name)));
      count : g.S.Site.fault_count l.site ≡ g.S.Site.fault_count l.fn.site;
    }
