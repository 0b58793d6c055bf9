-- Heads of records that stand in files that the job knows.
use Rattle.std.specs.Prelude.{◌≡◌, ℕ, ◌<◌, List, [], length, flat_map, Contains, slice_index_or}
use Rattle.std.specs.List.{AllZip}
use Rattle.chk_chunk.specs.Keys.{Chunk, chunk_limit, chunk_begin}
use Rattle.chk_world.specs.Books.{chunks_within}
use Rattle.chk_world.specs.Sight.{Sight}
use Rattle.chk_record_index.specs.Heads.{Head, heads_in}
use Rattle.chk_record_index.specs.Pieces.{bytes_in}
use Rattle.chk_record_reader.specs.ReadBack.{chunk_at}
use Rattle.chk_archive_parts.specs.Gathering.{held, AreSound}

-- the file of the head
abbrev pub file_at : List (List ℕ) → ℕ → List ℕ
file_at files n = slice_index_or files n []

-- the head is that of a record in one of these files, and this is its chunk
pub record IsRecordOf (v : Sight) (files : List (List ℕ)) (h : Head) (c : Chunk) : Type 0 where
  pub within : h.file < length files
  pub known : Contains (heads_in chunk_limit h.file (bytes_in (held v (file_at files h.file)))) h
  pub is : chunk_at (bytes_in (held v (file_at files h.file))) h ≡ c
  pub begin : h.begin ≡ chunk_begin c

-- the heads are those of records in these files, one for each chunk
pub record AreRecords (v : Sight) (files : List (List ℕ)) (heads : List Head) (cs : List Chunk) : Type 0 where
  pub sound : AreSound v files
  pub each : AllZip (IsRecordOf v files) heads cs

-- the chunks of a file that the job knows
abbrev pub chunks_held : Sight → List ℕ → List Chunk
chunks_held v w = chunks_within chunk_limit (bytes_in (held v w))

-- the chunks of these files, file after file
abbrev pub found_in : Sight → List (List ℕ) → List Chunk
found_in v files = flat_map (chunks_held v) files

-- of two chunks of a stream that have the same offsets the data is the same
abbrev pub AreOfLogs : List Chunk → Type 0
AreOfLogs cs =
    (c d : Chunk) → Contains cs c → Contains cs d → c.key.stream ≡ d.key.stream
    → chunk_begin c ≡ chunk_begin d → c.key.seq ≡ d.key.seq → c.value ≡ d.value
