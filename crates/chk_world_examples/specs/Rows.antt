-- The worked numbers and texts: bytes as they are spelled, and what is made of them.
use Rattle.std.specs.Prelude.{◌≡◌, ℕ, true, false, List, [], ◌∷◌, ◌++◌, length, Some, None, map, codes, Any}
use Rattle.chk_bytes.specs.Stems.{Stem, stem_of}
use Rattle.chk_site.specs.Logs.{is_cut_place, last_cut}
use Rattle.chk_site.specs.History.{files_after}
use Rattle.chk_control.specs.declared.Class.TheVariants.{Plain}
use Rattle.chk_seqfile.specs.Headers.{header}
use Rattle.chk_seqfile.specs.Entries.{record_entry}
use Rattle.chk_chunk.specs.Keys.{Stream, Chunk, Covers, no_cluster, written_key}
use Rattle.chk_chunk.specs.Reach.{IsReach}
use Rattle.chk_world.specs.Names.{ArchiveFolder, BornFile, SinkFile, MarkFile, CheckFile, BookFile, SegmentFile, Temporary, OtherFile, read, file}
use Rattle.chk_world.specs.Checkpoints.{Line, One, Two, are_lines, written_version, checkpoint_text, read_checkpoint}
use Rattle.chk_world.specs.Books.{Book, written_version as book_version, book_bytes, read_book}
use Rattle.chk_world.specs.Committed.{committed_length, chunks_below, IsKept}
use Rattle.chk_world.specs.ArchiveRuns.{in_order, total_gain, once}
use Rattle.chk_world.specs.Splits.{split_stamped, split_lines}
use Rattle.chk_world_examples.specs.Moments.{g18, g19}

abbrev pub h1 : Stream
h1 = record { source = codes "h1"; kind = codes "Log"; name = codes "/a.log" }

abbrev pub hello : List ℕ
hello = codes "hello\n"

abbrev pub world : List ℕ
world = codes "world\n"

abbrev pub chunk_at : ℕ → List ℕ → Chunk
chunk_at q value = record { key = record { stream = h1; start = 0; cluster = no_cluster; seq = q }; value = value }

abbrev pub x : Stem
x = stem_of (codes "c1") 1 1

abbrev pub line : Line
line = record { live = true; name = codes "adaptor_1"; class = Plain; kind = codes "Log"; path = codes "/a.log"; offset = 6; first = 0; after = None; start = 0 }

abbrev pub moved_line : Line
moved_line = record { live = true; name = codes "x"; class = Plain; kind = codes "Log"; path = codes "/a.log"; offset = 11; first = 5; after = None; start = 5 }

abbrev pub book : Book
book = record { next = 2; segments = record { number = 1; length = 144 } ∷ []; ends = record { stream = h1; start = 0; end = 6 } ∷ []; aside = None }

abbrev pub moved_book : Book
moved_book = record { next = 2; segments = record { number = 1; length = 158 } ∷ []; ends = record { stream = h1; start = 5; end = 11 } ∷ []; aside = None }

abbrev pub aside_book : Book
aside_book = record { next = 2; segments = []; ends = []; aside = Some (record { number = 1; length = 144 }) }

abbrev pub day : List ℕ
day = codes "2010-11-08 09:00:00,001 INFO namenode: started\n" ++ (codes "2010-11-08 09:00:01,250 ERROR namenode: failed\n" ++ (codes "java.io.IOException: no space\n" ++ (codes "\tat a.b.C.d(C.java:10)\n" ++ codes "2010-11-08 09:00:02,000 INFO namenode: stopped\n")))

-- how far these chunks reach
abbrev pub covered_by : List Chunk → ℕ → Type 0
covered_by chunks o = Any (Covers h1 o) chunks

abbrev pub overlap : List Chunk
overlap = chunk_at 6 hello ∷ chunk_at 10 (codes "o\nworl") ∷ []

-- the second chunk begins at 7, behind a gap
abbrev pub gap : List Chunk
gap = chunk_at 6 hello ∷ chunk_at 13 world ∷ []

-- what they are
pub record WorkedRows : Type 0 where
  pub key_is : written_key (chunk_at 6 hello).key ≡ 1 ∷ 0 ∷ 0 ∷ 0 ∷ 0 ∷ 0 ∷ 0 ∷ 0 ∷ 6 ∷ 0 ∷ 2 ∷ 0x68 ∷ 0x31 ∷ 0 ∷ 3 ∷ 0x4C ∷ 0x6F ∷ 0x67 ∷ 0 ∷ 6 ∷ 0x2F ∷ 0x61 ∷ 0x2E ∷ 0x6C ∷ 0x6F ∷ 0x67 ∷ []
  pub key_has_26_bytes : length (written_key (chunk_at 6 hello).key) ≡ 26
  pub record_has_48_bytes : length (record_entry (written_key (chunk_at 6 hello).key) hello) ≡ 48
  -- its two lengths, the key with its length, the data with its length
  pub record_is : record_entry (written_key (chunk_at 6 hello).key) hello
      ≡ 0 ∷ 0 ∷ 0 ∷ 40 ∷ 0 ∷ 0 ∷ 0 ∷ 30 ∷ 0 ∷ 0 ∷ 0 ∷ 26 ∷ written_key (chunk_at 6 hello).key ++ 0 ∷ 0 ∷ 0 ∷ 6 ∷ hello
  -- a header, whatever its marker
  pub header_is : (m : List ℕ) → header m
      ≡ codes "SEQ" ++ 6 ∷ 34 ∷ codes "org.apache.hadoop.io.BytesWritable" ++ 34 ∷ codes "org.apache.hadoop.io.BytesWritable" ++ 0 ∷ 0 ∷ 0 ∷ 0 ∷ 0 ∷ 0 ∷ m
  pub header_has_96_bytes : (m : List ℕ) → length m ≡ 16 → length (header m) ≡ 96
  pub sink_of_one_record_has_144_bytes : (m : List ℕ) → length m ≡ 16
      → length (header m ++ record_entry (written_key (chunk_at 6 hello).key) hello) ≡ 144
  pub names_are_read : map read (codes "sinks/c1.1.1.chukwa" ∷ codes "sinks/c1.1.1.mark.tmp" ∷ codes "sinks/c1.born" ∷ codes "agents/h.1.check" ∷ codes "archive/seg.12" ∷ codes "archive/seg.012" ∷ codes "archive/book.tmp" ∷ codes "x.tmp" ∷ [])
      ≡ SinkFile x ∷ Temporary (MarkFile x) ∷ BornFile (codes "c1") ∷ CheckFile (codes "h.1") ∷ SegmentFile ArchiveFolder 12 ∷ OtherFile (codes "archive/seg.012") ∷ Temporary (BookFile ArchiveFolder) ∷ OtherFile (codes "x.tmp") ∷ []
  pub checkpoint_is : checkpoint_text One (line ∷ []) ≡ codes "chukwa-checkpoint 1\nadd adaptor_1 = LWFTAdaptor Log /a.log 6 0 -\n"
  pub checkpoint_has_65_bytes : length (checkpoint_text One (line ∷ [])) ≡ 65
  pub checkpoint_is_read : read_checkpoint (checkpoint_text One (line ∷ [])) ≡ Some (line ∷ [])
  pub no_checkpoint : read_checkpoint (codes "x") ≡ None
  pub two_lines_of_one_log : are_lines One (line ∷ line ∷ []) ≡ false
  pub moved_checkpoint_is : checkpoint_text (written_version (moved_line ∷ [])) (moved_line ∷ []) ≡ codes "chukwa-checkpoint 2\nadd x = LWFTAdaptor Log /a.log 11 5 - 5\n"
  pub moved_checkpoint_has_60_bytes : length (checkpoint_text Two (moved_line ∷ [])) ≡ 60
  pub book_has_62_bytes : length (book_bytes (book_version book) book) ≡ 62
  pub book_is_read : read_book (book_bytes (book_version book) book) ≡ Some book
  pub moved_book_has_70_bytes : length (book_bytes (book_version moved_book) moved_book) ≡ 70
  pub moved_book_is_read : read_book (book_bytes (book_version moved_book) moved_book) ≡ Some moved_book
  pub aside_book_has_37_bytes : length (book_bytes (book_version aside_book) aside_book) ≡ 37
  pub aside_book_is_read : read_book (book_bytes (book_version aside_book) aside_book) ≡ Some aside_book
  pub cuts_of_lines : map (is_cut_place true [] (codes "a\nb")) (0 ∷ 1 ∷ 2 ∷ 3 ∷ []) ≡ true ∷ false ∷ true ∷ false ∷ []
  pub last_cut_of_lines : last_cut true [] (codes "a\nb") 3 ≡ 2
  -- places of a rotated generation: its end, and the beginning of the next
  pub cuts_of_rotated : map (is_cut_place true (codes "ab" ∷ []) (codes "c\nd")) (0 ∷ 1 ∷ 2 ∷ 3 ∷ 4 ∷ 5 ∷ []) ≡ true ∷ false ∷ true ∷ false ∷ true ∷ false ∷ []
  -- a reader of bytes may stop anywhere up to the end
  pub cuts_of_bytes : map (is_cut_place false [] (codes "ab")) (0 ∷ 1 ∷ 2 ∷ 3 ∷ []) ≡ true ∷ true ∷ true ∷ false ∷ []
  pub day_is_split : map (λ r. r.end) (split_stamped 0 day) ≡ 47 ∷ 147 ∷ []
  pub lines_are_split : map (λ r. r.end) (split_lines 0 (codes "a\nb")) ≡ 2 ∷ []
  -- an overlap is taken once, a gap isn't passed, and once it is filled both are taken
  pub overlap_gain : total_gain (λ s. 0) (in_order (chunk_at 10 (codes "o\nworl") ∷ chunk_at 6 hello ∷ [])) ≡ 10
  pub gap_gain : total_gain (λ s. 0) (in_order (chunk_at 12 world ∷ [])) ≡ 0
  pub filled_gain : total_gain (λ s. 0) (in_order (chunk_at 12 world ∷ chunk_at 6 hello ∷ [])) ≡ 12
  pub reach_of_overlap : IsReach (covered_by overlap) 0 10
  pub reach_before_gap : IsReach (covered_by gap) 0 6
  pub set_aside_once : once (chunk_at 12 world ∷ chunk_at 12 world ∷ []) ≡ chunk_at 12 world ∷ []
  pub committed_after_the_mark : committed_length (files_after g19) x ≡ 144
  pub not_committed_before : committed_length (files_after g18) x ≡ 0
  pub kept_chunks : chunks_below (committed_length (files_after g19) x) (file (files_after g19) (SinkFile x)) ≡ chunk_at 6 hello ∷ []
  pub not_kept_before : chunks_below (committed_length (files_after g18) x) (file (files_after g18) (SinkFile x)) ≡ []
  pub kept_after_the_mark : IsKept (files_after g19) (chunk_at 6 hello)
