-- Committed lengths, the kept chunks, and the archive.
use Rattle.std.specs.Prelude.{◌≡◌, ◌⊎◌, ℕ, ◌+◌, ◌<◌, IsTrue, List, [], length, take, Contains, Option, Some, None}
use Rattle.chk_bytes.specs.Numbers.{spelled, limit}
use Rattle.chk_bytes.specs.Stems.{Stem, is_stem}
use Rattle.chk_site.specs.Files.{File, Files}
use Rattle.chk_site.specs.History.{History, files_after}
use Rattle.chk_chunk.specs.Keys.{Stream, Chunk, Covers, chunk_limit}
use Rattle.chk_world.specs.Names.{ArchiveFolder, SinkFile, MarkFile, DoneFile, file}
use Rattle.chk_world.specs.Books.{book_of, aside_in, chunks_within, stored}
use Rattle.chk_world.specs.Streams.{start_of}

-- a fact of the file, where it is there
abbrev pub OnFile : Option File → (File → Type 0) → Type 0
OnFile None P = Unit {0}
OnFile (Some f) P = P f

-- the file is there, and the fact holds of it
abbrev pub HasFile : Option File → (File → Type 0) → Type 0
HasFile None P = ⊥
HasFile (Some f) P = P f

-- there is no such file
abbrev pub IsAbsent : Option File → Type 0
IsAbsent None = Unit {0}
IsAbsent (Some f) = ⊥

-- all of it is synced
abbrev pub IsWhole : File → Type 0
IsWhole f = f.synced ≡ length f.bytes

-- 8 bytes that are all synced, of a number below 2^63
abbrev pub IsNumber : File → Type 0
IsNumber f = IsWhole f × (length f.bytes ≡ 8) × (spelled f.bytes < limit)

-- the number in a file of 8 bytes, or 0
abbrev pub number_in : Option File → ℕ
number_in None = 0
number_in (Some f) = spelled f.bytes

-- of a done sink and a mark: the length of the one, else the number in the other, else 0
abbrev pub committed_of : Option File → Option File → ℕ
committed_of (Some done) mark = length done.bytes
committed_of None mark = number_in mark

-- the committed length of a sink
abbrev pub committed_length : Files → Stem → ℕ
committed_length files x = committed_of (file files (DoneFile x)) (file files (MarkFile x))

-- the chunks of the first n bytes of a file
abbrev pub chunks_below : ℕ → Option File → List Chunk
chunks_below n None = []
chunks_below n (Some f) = chunks_within chunk_limit (take n f.bytes)

-- the chunks of a whole sink
abbrev pub sink_chunks : Option File → List Chunk
sink_chunks None = []
sink_chunks (Some f) = chunks_within chunk_limit f.bytes

-- the chunks that the archive's book has set aside
abbrev pub aside_chunks : Files → List Chunk
aside_chunks files = aside_in files ArchiveFolder (book_of files ArchiveFolder).aside

-- the chunk stands below the committed length of a sink under writing or a done sink, or is set aside
abbrev pub IsKept : Files → Chunk → Type 0
IsKept files c =
    ((x : Stem)
    × IsTrue (is_stem x)
    × (Contains (chunks_below (committed_length files x) (file files (SinkFile x))) c
    ⊎ Contains (chunks_below (committed_length files x) (file files (DoneFile x))) c))
    ⊎ Contains (aside_chunks files) c

-- the archive of a stream. Its first byte has the start as its offset
abbrev pub archive_of_stream : Files → Stream → List ℕ
archive_of_stream files s = stored files ArchiveFolder s

-- the offset past the archive's last byte
abbrev pub archived_end : History → Stream → ℕ
archived_end history s = start_of history s + length (archive_of_stream (files_after history) s)

-- a kept chunk of s covers the offset
abbrev pub KeptAt : History → Stream → ℕ → Type 0
KeptAt history s o = (c : Chunk) × Covers s o c × IsKept (files_after history) c
