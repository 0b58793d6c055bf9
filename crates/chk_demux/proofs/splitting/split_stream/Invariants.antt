use Rattle.std.proofs.Common.{◌≡◌, ℕ, Bool, List, Ok}
use Rattle.std.specs.Prelude.{codes}
use Rattle.chk_site.specs.Site.{Adds}
use Rattle.chk_site.specs.Runs.{anyhow, Leads}
use Rattle.chk_chunk.specs.Keys.{Chunk}
use Rattle.chk_world.specs.Places.{As}
use Rattle.chk_world.specs.Sight.{job, Sight, AtJob}
use Rattle.chk_world.specs.JobSteps.{ReadsOrWrites}
use Rattle.chk_book.specs.Folders.{segment_name}
use Rattle.chk_book.specs.Books.{book_view}
use Rattle.chk_book.specs.Views.{end_view}
use Rattle.chk_world.specs.TrueBooks.{HasBytes}
use Rattle.chk_world.proofs.Each.{Each}
use Rattle.chk_record_reader.specs.Segments.{SparesFiles, AreSettled}
use Rattle.chk_record_reader.specs.Merging.{AreApart}
use Rattle.chk_archive_parts.specs.Gathering.{held}
use Rattle.chk_archive_parts.specs.Records.{AreRecords}
use Rattle.chk_archive_parts.specs.Fetching.{AreWindows}
use Rattle.chk_demux_split.specs.Splitting.{fresh}
use Rattle.chk_demux.specs.Damage.{AreRead, AreOfNew}
use Rattle.chk_demux.specs.Due.{IsFed}
use Rattle.chk_demux.specs.Working.{Worked}
use Rattle.chk_demux.specs.Writes.{IsFree, IsWriter, IsOutput}
use Rattle.chk_demux.specs.Shown.{PutsIf, HasPast}
use Rattle.chk_demux.specs.Splitting.{RunsSo, HoldsStream, SplitSoFar}
use Rattle.chk_demux.proofs.splitting.split_stream.Given as goal

abbrev pub invariant-loop-index : goal.invariant-loop-index
invariant-loop-index g l = record {
  so_far : (stamped : List (List ℕ)) (v : Sight) (cs outs : List Chunk) (b : Bool) → AreRecords v l.files l.heads cs
      → IsFree v (book_view l.book).next → RunsSo cs (end_view l.end) l.from
      → HoldsStream l.heads (end_view l.end).stream l.fn.block.first l.fn.block.end → l.initial.splitter ≡ fresh b
      → Adds (g.S.Site.told l.fn.site) (g.S.Site.told l.site) (Leads (As stamped job)
      (AtJob stamped (λ u. IsOutput v outs l.fn.output u × AreWindows v l.files l.fn.reader))
      (AtJob stamped (SplitSoFar v l.files l.heads cs outs (end_view l.end) l.from l.index b l.output l.reader l.splitter)));
  raw_so_far : (v : Sight) (cs : List Chunk) (new : List (List ℕ)) (b : Bool)
      → AreRecords v l.files l.heads cs → Each HasBytes cs → AreOfNew l.files l.heads new
      → AreSettled new (held v)
      → AreApart new (segment_name (codes "demux") (book_view l.book).next)
      → HoldsStream l.heads (end_view l.end).stream l.fn.block.first l.fn.block.end
      → l.initial.splitter ≡ fresh b
      → Adds (g.S.Site.told l.fn.site) (g.S.Site.told l.site) (Leads (anyhow (SparesFiles new))
      (AreRead v new l.files l.fn.reader)
      (λ h. AreRead v new l.files l.reader h × IsFed cs (end_view l.end) l.from l.index b l.splitter
      l.fn.output.entries l.output.entries));
  writer : IsWriter (book_view l.book).next l.output.segmenter;
  due : PutsIf (HasPast l.heads (end_view l.end) l.from) l.fn.output.entries l.output.entries;
  works : Adds (g.S.Site.told l.fn.site) (g.S.Site.told l.site)
      (Worked {T = Unit {0}} (ReadsOrWrites (segment_name (codes "demux") (book_view l.book).next)) (Ok tt));
  count : g.S.Site.fault_count l.site ≡ g.S.Site.fault_count l.fn.site;
}
