-- What a book says of its streams at every moment of a legal history.
use Rattle.std.specs.Prelude.{ℕ, ◌≤◌, ◌<◌, List, length}
use Rattle.chk_site.specs.History.{History, files_after}
use Rattle.chk_chunk.specs.Keys.{Stream, Chunk, chunk_end}
use Rattle.chk_world.specs.Names.{Folder, ArchiveFolder}
use Rattle.chk_world.specs.Books.{book_of, chunks_named, chunks_of_stream}
use Rattle.chk_world.specs.Streams.{start_of}
use Rattle.chk_world.specs.Committed.{archived_end}
use Rattle.chk_world.specs.Jobs.{Run, BookNamesSyncedSegments}
use Rattle.chk_world.specs.Rules.{Legal}

-- the chunk has a byte, and as many below its end as it holds
pub record HasBytes (c : Chunk) : Type 0 where
  pub some : 0 < length c.value
  pub room : length c.value ≤ chunk_end c

-- what was asked of a book when it was published holds of it from then on
abbrev pub BooksStayTrue : Type 0
BooksStayTrue =
    (stamped : List (List ℕ)) (history : History) → Legal stamped history → (folder : Folder)
    → BookNamesSyncedSegments folder history (book_of (files_after history) folder)

-- the records of a stream in the archive
abbrev pub archived_chunks : History → Stream → List Chunk
archived_chunks history s =
    let files = files_after history in
    chunks_of_stream s (chunks_named files ArchiveFolder (book_of files ArchiveFolder))

-- the archive's records of a stream run from its start to its end
abbrev pub ArchivesRun : Type 0
ArchivesRun =
    (stamped : List (List ℕ)) (history : History) → Legal stamped history → (s : Stream)
    → Run (start_of history s) (start_of history s) (archived_chunks history s)
    (archived_end history s)
