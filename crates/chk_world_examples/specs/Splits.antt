-- Books of `demux` that the job's rule refuses since their records aren't the archive's split, or don't go on, each beside one that is allowed.
use Rattle.std.specs.Prelude.{◌∷◌, ◌≡◌, ℕ, false, List, [], Some, None, bytes_eq, if◌then◌else◌, length, codes}
use Rattle.chk_site.specs.declared.acts.Call.TheVariants.{Rename}
use Rattle.chk_site.specs.History.{Step, History, files_after}
use Rattle.chk_world_examples.specs.Texts.{hello, seg, book_name, book_1st, stream}
use Rattle.chk_world.specs.Sight.{job}
use Rattle.chk_world_examples.specs.Refusing.{TheRule, by, ObeysBut}
use Rattle.chk_site.specs.Acts.{Renames}
use Rattle.chk_chunk.specs.Keys.{Stream, same_stream}
use Rattle.chk_world.specs.Names.{DemuxFolder}
use Rattle.chk_world.specs.Books.{Book, One, book_bytes}
use Rattle.chk_world.specs.Streams.{start_of}
use Rattle.chk_world.specs.Committed.{archive_of_stream}
use Rattle.chk_world.specs.Splits.{split, records_named, demuxed_records}
use Rattle.chk_world.specs.Jobs.{BookNamesSyncedSegments, Continues, RecordsAreASplit, JobRule}
use Rattle.chk_world_examples.specs.Books.{with_files, segment_of, next_book}

-- a moment at which the archive has the one line, and the next book of `demux` names a segment of one record with this data
abbrev pub demuxed : List ℕ → History
demuxed value = with_files (λ n.
    if bytes_eq n (codes "demux/seg.1") then Some (segment_of value 144)
    else if bytes_eq n (codes "demux/book.tmp") then Some next_book
    else if bytes_eq n seg then Some (segment_of hello 144)
    else if bytes_eq n book_name then Some next_book
    else None)

abbrev pub may_publish : List ℕ → Type 0
may_publish value = JobRule [] (demuxed value) (Renames (codes "demux/book.tmp") (codes "demux/book"))

-- all else holds of the one that is refused
pub record SplitAlone : Type 0 where
  pub names : BookNamesSyncedSegments DemuxFolder (demuxed (codes "jello\n")) book_1st
  pub on : (s : Stream) → Continues (demuxed_records (files_after (demuxed (codes "jello\n"))) s) (records_named (files_after (demuxed (codes "jello\n"))) book_1st s)
  pub elsewhere : (s : Stream) → same_stream s stream ≡ false → RecordsAreASplit [] (demuxed (codes "jello\n")) book_1st s

-- a book that loses the old one's record
abbrev pub no_records : Book
no_records = record { next = 2; segments = []; ends = []; aside = None }

abbrev pub demuxed_once : Book → History
demuxed_once b = with_files (λ n.
    if bytes_eq n (codes "demux/seg.1") then Some (segment_of hello 144)
    else if bytes_eq n (codes "demux/book") then Some next_book
    else if bytes_eq n (codes "demux/book.tmp") then Some (record { bytes = book_bytes One b; synced = length (book_bytes One b) })
    else if bytes_eq n seg then Some (segment_of hello 144)
    else if bytes_eq n book_name then Some next_book
    else None)

abbrev pub may_go_on : Book → Type 0
may_go_on b = JobRule [] (demuxed_once b) (Renames (codes "demux/book.tmp") (codes "demux/book"))

-- all else holds of it
pub record LostAlone : Type 0 where
  pub names : BookNamesSyncedSegments DemuxFolder (demuxed_once no_records) no_records
  pub are : (s : Stream) → Continues (records_named (files_after (demuxed_once no_records)) no_records s)
      (split [] s (start_of (demuxed_once no_records) s) (archive_of_stream (files_after (demuxed_once no_records)) s))
  pub elsewhere : (s : Stream) → same_stream s stream ≡ false → RecordsAreASplit [] (demuxed_once no_records) no_records s

-- the job publishes the book of `demux`
abbrev pub publishes : History → Step
publishes = by job Rename (codes "demux/book.tmp" ∷ codes "demux/book" ∷ [])

-- books of `demux`
pub record SplitsAreRefused : Type 0 where
  -- their records are the first of the archive's split
  pub no_split : may_publish (codes "jello\n") → ⊥
  pub no_split_alone : SplitAlone
  pub no_split_else : ObeysBut TheRule (demuxed (codes "jello\n")) (publishes (demuxed (codes "jello\n")))
  pub is_split : may_publish hello
  -- they go on from those that were there
  pub records_lost : may_go_on no_records → ⊥
  pub records_lost_alone : LostAlone
  pub records_lost_else : ObeysBut TheRule (demuxed_once no_records) (publishes (demuxed_once no_records))
  pub records_kept : may_go_on book_1st
