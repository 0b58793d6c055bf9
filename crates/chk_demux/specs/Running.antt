-- What a demux run does once it has begun.
use Rattle.std.specs.Prelude.{◌≡◌, ℕ, IsTrue, List, Result, codes}
use Rattle.chk_site.specs.Acts.{Deed}
use Rattle.chk_site.specs.History.{History}
use Rattle.chk_world.specs.Names.{ArchiveFolder, DemuxFolder}
use Rattle.chk_chunk.specs.Keys.{Chunk}
use Rattle.chk_world.specs.Books.{Book, ends_rise}
use Rattle.chk_world.specs.Rules.{Legal}
use Rattle.chk_world.specs.Sight.{Sight, sight, own_book}
use Rattle.chk_world.specs.JobSteps.{ReadsFile, WritesTo}
use Rattle.chk_record_index.specs.Heads.{Head}
use Rattle.chk_record_index.specs.Order.{in_head_order}
use Rattle.chk_record_reader.specs.Segments.{names_of, AreSettled}
use Rattle.chk_record_reader.specs.Checking.{AllGoWell}
use Rattle.chk_archive_parts.specs.Gathering.{held, AreSound, heads_of}
use Rattle.chk_archive_parts.specs.Records.{AreRecords, found_in}
use Rattle.chk_book.specs.Folders.{segment_name}
use Rattle.chk_record_index.specs.declared.fault.JobFault.{JobFault}
use Rattle.chk_demux.specs.Demuxed.{Demuxed, ReplacesBook}
use Rattle.chk_demux.specs.Beginning.{own_earlier}
use Rattle.chk_demux.specs.Splitting.{SplitAll}
use Rattle.chk_demux.specs.Writes.{IsFree}
use Rattle.chk_demux.specs.declared.output.Output.{Output}
use Rattle.chk_demux.specs.declared.report.DemuxReport.{DemuxReport}

-- in a legal history the job knows this, and the folders have these books
pub record IsReady (stamped : List (List ℕ)) (archive demux : Book) (v : Sight) : Type 0 where
  pub history : History
  pub legal : Legal stamped history
  pub is : sight history ≡ v
  pub has_archive : own_book v ArchiveFolder ≡ archive
  pub has_demux : own_book v DemuxFolder ≡ demux

-- the heads of the archive's records, in order
abbrev pub archive_heads : Sight → Book → List Head
archive_heads v archive = in_head_order (heads_of v 0 (names_of (codes "archive") archive))

-- all streams' records run as the archive's book says; these chunks are what its segments hold, and each stream's run on where its
-- split goes on, also as they stand in the segments
pub record CanSplit (archive demux : Book) (v : Sight) (cs : List Chunk) : Type 0 where
  pub sound : AreSound v (names_of (codes "archive") archive)
  pub well : AllGoWell archive.ends (heads_of v 0 (names_of (codes "archive") archive))
  pub records : AreRecords v (names_of (codes "archive") archive) (archive_heads v archive) cs
  pub runs : SplitAll cs archive.ends demux
  pub unsorted : SplitAll (found_in v (names_of (codes "archive") archive)) archive.ends demux
  pub sorted : IsTrue (ends_rise archive.ends)
  pub settled : AreSettled (names_of (codes "archive") archive) (held v)
  pub rises : IsTrue (ends_rise demux.ends)
  pub free : IsFree v demux.next

-- from the records that the job knew on
abbrev pub Ran : List (List ℕ) → Sight → Result DemuxReport JobFault → History → Type 0
Ran stamped v r history = Demuxed stamped (own_earlier v) r history

-- the report has what was written, and how many bytes are left
abbrev pub Reports : Output → ℕ → DemuxReport → Type 0
Reports o left r = (r.taken ≡ o.taken) × (r.entries ≡ o.entries) × (r.left ≡ left)

-- the calls behind the start
pub data RunsOn : Deed → Type 0 where
  goes_reading : (call : Deed) → ReadsFile call → RunsOn call
  goes_writing : (k : ℕ) (call : Deed) → WritesTo (segment_name (codes "demux") k) call → RunsOn call
  goes_replacing : (call : Deed) → ReplacesBook call → RunsOn call
