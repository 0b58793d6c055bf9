-- The heads that a demux run needs.
use Rattle.std.specs.Prelude.{◌≡◌, ℕ, ◌<◌, ◌≤◌, List, length, drop, map, codes, Contains, Result, Ok, Err}
use Rattle.chk_site.specs.Files.{Files}
use Rattle.chk_site.specs.History.{History}
use Rattle.chk_chunk.specs.Keys.{Stream, Chunk}
use Rattle.chk_world.specs.Books.{Book, End}
use Rattle.chk_world.specs.Sight.{Sight}
use Rattle.chk_record_index.specs.Heads.{Head}
use Rattle.chk_record_index.specs.Order.{in_head_order}
use Rattle.chk_record_index.specs.declared.fault.JobFault.{JobFault}
use Rattle.chk_record_index.specs.declared.fault.JobFault.TheVariants.{Damaged}
use Rattle.chk_record_reader.specs.Archives.{IsDamagedAt}
use Rattle.chk_record_reader.specs.Segments.{names_of, HasFiles}
use Rattle.chk_archive_parts.specs.Gathering.{heads_of}
use Rattle.chk_archive_parts.specs.Records.{AreRecords}
use Rattle.chk_demux_scan.specs.Backward.{begin_in, AllRunBack, ReachPlaces}
use Rattle.chk_demux_scan.specs.Forward.{past_of}
use Rattle.chk_demux_scan.specs.Newest.{heads_behind, Suffice}
use Rattle.chk_demux.specs.Splitting.{split_from, SplitAll, StreamsRise, all_chunks, all_left}

-- where the split of each stream of the archive goes on
abbrev pub places_for : Book → Book → List ℕ
places_for archive demux = map (split_from demux) archive.ends

-- The heads are those of the files from some one on, in order. In these files the records of each stream run up to its end in
-- the archive's book, and they begin where its split goes on, or below.
pub record Reach (v : Sight) (archive demux : Book) (names : List (List ℕ)) (heads : List Head) : Type 0 where
  pub first : ℕ
  pub within : first ≤ length names
  pub run : AllRunBack archive.ends (heads_of v first (drop first names))
  pub far : (e : End) → Contains archive.ends e → begin_in e (heads_of v first (drop first names)) ≤ split_from demux e
  pub order : heads ≡ in_head_order (heads_of v first (drop first names))

-- The heads are those of some chunks in order, of which each stream's run on where its split goes on, and they give the same new
-- records as these other heads and chunks.
pub record Enough (v : Sight) (archive demux : Book) (names : List (List ℕ)) (all : List Head) (cs : List Chunk)
    (heads : List Head) : Type 0 where
  pub chunks : List Chunk
  pub records : AreRecords v names heads chunks
  pub runs : SplitAll chunks archive.ends demux
  pub rise : StreamsRise heads
  pub same : (types : List (List ℕ)) → all_chunks types demux heads chunks archive.ends ≡ all_chunks types demux all cs archive.ends
  pub left : (types : List (List ℕ)) → all_left types demux chunks archive.ends ≡ all_left types demux cs archive.ends

-- Of the segments that the archive's book names those from this one on suffice, and no fewer do:
-- they are of chunks, in them each stream's records go on from each other up to its end in that
-- book, and they begin where its split goes on by the records' book, or below. Those of all
-- segments begin at their streams' starts.
pub record RunsFrom (archive records : Book) (files : Files) (first : ℕ) : Type 0 where
  pub within : first ≤ length (names_of (codes "archive") archive)
  pub suffice : Suffice archive.ends (places_for archive records)
      (names_of (codes "archive") archive) files first
  pub newest : (i : ℕ) → first < i → i ≤ length (names_of (codes "archive") archive)
      → ReachPlaces archive.ends (places_for archive records)
      (heads_behind files (names_of (codes "archive") archive) i) → ⊥

-- these are the heads of those segments' records that end past where the split of their streams
-- goes on, in order
pub record AreNewest (archive records : Book) (files : Files) (heads : List Head) : Type 0 where
  pub first : ℕ
  pub runs : RunsFrom archive records files first
  pub order : heads ≡ in_head_order (past_of archive.ends (places_for archive records)
      (heads_behind files (names_of (codes "archive") archive) first))

-- at Ok these are the heads, and the files are as they were; damage is of some stream
abbrev pub SoundNewest : Book → Book → Files → Result (List Head) JobFault → History → Type 0
SoundNewest archive records files (Ok heads) history =
    HasFiles (names_of (codes "archive") archive) files history
    × AreNewest archive records files heads
SoundNewest archive records files (Err (Damaged name at)) history =
    (s : Stream) × IsDamagedAt (codes "archive") archive files s name at
SoundNewest archive records files (Err fault) history = Unit {0}

-- the segments that the archive's book names suffice from this one on
pub record IsEnoughFrom (archive records : Book) (files : Files) (k : ℕ) : Type 0 where
  pub within : k ≤ length (names_of (codes "archive") archive)
  pub suffice : Suffice archive.ends (places_for archive records)
      (names_of (codes "archive") archive) files k

-- at Ok these are the heads of these or fewer, and the files are as they were; nothing is damaged
abbrev pub SoundOlder : Book → Book → Files → ℕ → Result (List Head) JobFault → History → Type 0
SoundOlder archive records files k (Ok heads) history =
    HasFiles (drop k (names_of (codes "archive") archive)) files history
    × (x : AreNewest archive records files heads) × (k ≤ x.first)
SoundOlder archive records files k (Err (Damaged name at)) history = ⊥
SoundOlder archive records files k (Err fault) history = Unit {0}
