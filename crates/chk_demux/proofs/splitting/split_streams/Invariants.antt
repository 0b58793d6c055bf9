use Rattle.std.proofs.Common.{◌≡◌, ℕ, List, [], take, Ok}
use Rattle.std.specs.Prelude.{codes, IsTrue}
use Rattle.chk_site.specs.Site.{Adds}
use Rattle.chk_site.specs.Runs.{anyhow, Leads}
use Rattle.chk_chunk.specs.Keys.{Chunk}
use Rattle.chk_world.specs.Books.{ends_rise}
use Rattle.chk_world.specs.TrueBooks.{HasBytes}
use Rattle.chk_world.proofs.Each.{Each}
use Rattle.chk_world.specs.Places.{As}
use Rattle.chk_world.specs.Sight.{job, Sight, AtJob}
use Rattle.chk_world.specs.JobSteps.{ReadsOrWrites}
use Rattle.chk_book.specs.Folders.{segment_name}
use Rattle.chk_book.specs.Books.{book_view}
use Rattle.chk_record_reader.specs.Segments.{HasFiles, SparesFiles, AreSettled}
use Rattle.chk_record_reader.specs.Merging.{AreApart}
use Rattle.chk_archive_parts.specs.Gathering.{held}
use Rattle.chk_archive_parts.specs.Records.{AreRecords}
use Rattle.chk_archive_parts.specs.Fetching.{AreWindows}
use Rattle.chk_demux.specs.Damage.{AreRead, AreOfNew}
use Rattle.chk_demux.specs.Due.{HasDue}
use Rattle.chk_demux.specs.Working.{Worked}
use Rattle.chk_demux.specs.Writes.{IsFree, IsWriter, IsOutput}
use Rattle.chk_demux.specs.Shown.{PutsIf, HasNew}
use Rattle.chk_demux.specs.Splitting.{SplitAll, StreamsRise, all_chunks, all_left, texts}
use Rattle.chk_demux.proofs.splitting.split_streams.Given as goal

abbrev pub invariant-loop-end : goal.invariant-loop-end
invariant-loop-end g l = record {
  so_far : (stamped : List (List ℕ)) (v : Sight) (cs : List Chunk) → AreRecords v l.files l.heads cs
      → IsFree v (book_view l.book).next → SplitAll cs (book_view l.archive).ends (book_view l.book)
      → StreamsRise l.heads → IsTrue (ends_rise (book_view l.book).ends)
      → Adds (g.S.Site.told l.fn.site) (g.S.Site.told l.site) (Leads (As stamped job)
      (AtJob stamped (IsOutput v [] l.fn.output))
      (AtJob stamped (λ u. IsOutput v (all_chunks (texts l.types) (book_view l.book) l.heads cs (take l.end-index (book_view l.archive).ends)) l.output u
      × AreWindows v l.files l.reader
      × (l.left ≡ all_left (texts l.types) (book_view l.book) cs (take l.end-index (book_view l.archive).ends)))));
  raw_so_far : (v : Sight) (cs : List Chunk) (new : List (List ℕ))
      → AreRecords v l.files l.heads cs → Each HasBytes cs → AreOfNew l.files l.heads new
      → AreSettled new (held v)
      → AreApart new (segment_name (codes "demux") (book_view l.book).next)
      → StreamsRise l.heads → IsTrue (ends_rise (book_view l.book).ends)
      → Adds (g.S.Site.told l.fn.site) (g.S.Site.told l.site) (Leads (anyhow (SparesFiles new))
      (HasFiles new (held v)) (λ h. AreRead v new l.files l.reader h
      × PutsIf (HasDue (texts l.types) (book_view l.archive) (book_view l.book) cs)
      l.fn.output.entries l.output.entries));
  writer : IsWriter (book_view l.book).next l.output.segmenter;
  due : IsTrue (ends_rise (book_view l.book).ends)
      → PutsIf (HasNew (book_view l.archive) (book_view l.book) l.heads) l.fn.output.entries
      l.output.entries;
  works : Adds (g.S.Site.told l.fn.site) (g.S.Site.told l.site)
      (Worked {T = Unit {0}} (ReadsOrWrites (segment_name (codes "demux") (book_view l.book).next)) (Ok tt));
  count : g.S.Site.fault_count l.site ≡ g.S.Site.fault_count l.fn.site;
}
