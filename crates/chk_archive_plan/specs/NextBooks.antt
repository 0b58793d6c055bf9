-- Which book may follow an archive's book.
use Rattle.std.specs.Prelude.{◌≡◌, ◌⊎◌, ◌≤◌, IsTrue, List, ◌++◌, filter, Contains, Any}
use Rattle.chk_site.specs.History.{History, files_after}
use Rattle.chk_chunk.specs.Keys.{Stream, Chunk, chunk_end, is_of, same_data}
use Rattle.chk_world.specs.Names.{ArchiveFolder, SegmentFile, file}
use Rattle.chk_world.specs.Books.{Segment, End, Book, chunks_named, chunks_of_stream}
use Rattle.chk_world.specs.Committed.{HasFile, aside_chunks, archived_end}
use Rattle.chk_world.specs.Jobs.{IsSource, IsSoundSegment, all_segments, aside_after}
use Rattle.chk_archive_plan.specs.Plan.{parts_from, reached_from, ends_of, set_aside}
use Rattle.chk_world.specs.TrueBooks.{HasBytes}

-- the end is one of the old book, or that of the chunks' own start
abbrev pub StartsSo : Book → List Chunk → End → Type 0
StartsSo old cs e =
    Any (λ f. (f.stream ≡ e.stream) × (f.start ≡ e.start)) old.ends
    ⊎ Any (λ c. (c.key.stream ≡ e.stream) × (c.key.start ≡ e.start)) cs

-- the book names synced segments with the old one's records and then, for each stream, the parts
-- of the pass over the chunks; its ends are those that the pass reached
pub record NamesParts (history : History) (old new : Book) (cs : List Chunk) : Type 0 where
  pub sound : (g : Segment) → Contains (all_segments new) g
      → HasFile (file (files_after history) (SegmentFile ArchiveFolder g.number))
      (IsSoundSegment ArchiveFolder g)
  pub chunks : (s : Stream) → chunks_of_stream s
      (chunks_named (files_after history) ArchiveFolder new)
      ≡ chunks_of_stream s (chunks_named (files_after history) ArchiveFolder old) ++ parts_from
      (archived_end history s) (filter (is_of s) cs)
  pub listed : (c : Chunk) → Contains (chunks_named (files_after history) ArchiveFolder new) c → Any
      (λ e. e.stream ≡ c.key.stream) new.ends
  pub starts : (e : End) → Contains new.ends e → StartsSo old cs e
  pub ends : (e : End) → Contains new.ends e → e.end ≡ reached_from (archived_end history e.stream)
      (filter (is_of e.stream) cs)

-- each chunk was found in a done sink or in the aside segment
pub record AreFound (history : History) (cs : List Chunk) : Type 0 where
  pub source : (c : Chunk) → Contains cs c → IsSource (files_after history) c
  pub bytes : (c : Chunk) → Contains cs c → HasBytes c
  pub all_aside : (c : Chunk) → Contains (aside_chunks (files_after history)) c → Contains cs c

-- the chunks past their streams' ends, equal ones once
abbrev pub AsideIs : History → Book → List Chunk → Type 0
AsideIs history new cs = aside_after history new ≡ set_aside (ends_of (archived_end history) cs) cs

-- a chunk that was set aside is still, or one that is equal in stream, sequence id and data, or is
-- archived
abbrev pub AsideKept : History → Book → List Chunk → Type 0
AsideKept history new cs =
    (c : Chunk) → Contains (aside_chunks (files_after history)) c
    → Any (λ d. IsTrue (same_data c d)) (aside_after history new) ⊎
    (chunk_end c ≤ ends_of (archived_end history) cs c.key.stream)
