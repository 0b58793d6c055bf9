use Rattle.std.proofs.Common.{◌≡◌, ℕ, List, [], take, codes}
use Rattle.chk_site.specs.History.{Every}
use Rattle.chk_site.specs.Site.{Adds}
use Rattle.chk_site.specs.Runs.{Leads}
use Rattle.chk_chunk.specs.Keys.{Chunk}
use Rattle.chk_world.specs.Places.{As}
use Rattle.chk_world.specs.Sight.{job, Sight, AtJob}
use Rattle.chk_world.specs.JobSteps.{IsOf, ReadsOrWrites}
use Rattle.chk_record_index.specs.Pieces.{AsksInPieces}
use Rattle.chk_book.specs.Folders.{segment_name}
use Rattle.chk_archive_parts.specs.Cuts.{cut_chunks}
use Rattle.chk_archive_parts.specs.Records.{AreRecords}
use Rattle.chk_archive_parts.specs.Shelves.{AreKept}
use Rattle.chk_archive_parts.specs.Writes.{IsFree, IsForArchive, IsSoFar}
use Rattle.chk_archive_parts.proofs.writing.write_cuts.Given as goal

abbrev pub invariant-loop-place : goal.invariant-loop-place
invariant-loop-place g l = record {
  so_far : (stamped : List (List ℕ)) (v : Sight) (cs : List Chunk) → AreRecords v l.files l.heads cs
      → IsFree v l.files l.fn.segmenter.number → Adds (g.S.Site.told l.fn.site) (g.S.Site.told l.site)
      (Leads (As stamped job) (AtJob stamped (IsSoFar v [] l.fn.segmenter))
      (AtJob stamped (λ u. IsSoFar v (cut_chunks cs (take l.place l.cuts)) l.segmenter u
      × AreKept v l.files l.heads l.shelf)));
  segment : IsForArchive l.segmenter;
  number : l.segmenter.number ≡ l.fn.segmenter.number;
  writer : l.segmenter.who ≡ job;
  own : Adds (g.S.Site.told l.fn.site) (g.S.Site.told l.site)
      (Every (IsOf (ReadsOrWrites (segment_name (codes "archive") l.fn.segmenter.number))));
  pieces : Adds (g.S.Site.told l.fn.site) (g.S.Site.told l.site) (Every AsksInPieces);
  count : g.S.Site.fault_count l.site ≡ g.S.Site.fault_count l.fn.site;
}
