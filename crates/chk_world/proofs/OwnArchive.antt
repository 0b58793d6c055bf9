-- What the job knows says what its archives and its aside segment hold.
use Rattle.std.proofs.Common.{◌≡◌, ℕ, List, Option, Some, None, ap, ◌∙◌, refl, append-nil, arith, if◌then◌else◌}
use Rattle.std.specs.Prelude.{Contains}
use Rattle.std.proofs.lemmas.List.Elements.{Contains-append_left, Contains-append_right}
use Rattle.chk_site.specs.History.{History, files_after}
use Rattle.chk_chunk.specs.Keys.{Stream}
use Rattle.chk_world.specs.Names.{ArchiveFolder, SegmentFile, BookFile, file}
use Rattle.chk_world.specs.Books.{Segment, Book, book_of, chunks_in, segment_chunks, chunks_of_stream, values, aside_in}
use Rattle.chk_world.specs.Committed.{aside_chunks, archive_of_stream}
use Rattle.chk_world.specs.Jobs.{segment_list, all_segments}
use Rattle.chk_world.specs.Rules.{Legal}
use Rattle.chk_world.proofs.SmallFiles.{readable}
use Rattle.chk_world.proofs.Segments.{counts_in, flat_same}
use Rattle.chk_world.specs.Sight.{own_files, sight, own_chunks, own_archive, own_aside}

module _ (stamped : List (List ℕ)) (history : History) (legal : Legal stamped history) where
  abbrev b : Book
  b = book_of (files_after history) ArchiveFolder

  own_segment : (g : Segment) → Contains (all_segments b) g
      → chunks_in (own_files (files_after history) (SegmentFile ArchiveFolder g.number)) ≡ segment_chunks (files_after history) ArchiveFolder g
  own_segment g one =
      ap (λ k. chunks_in (if k then file (files_after history) (SegmentFile ArchiveFolder g.number) else None))
      (counts_in (file (files_after history) (BookFile ArchiveFolder)) ((readable stamped history legal).books ArchiveFolder) g one)

  pub own_archive_is : (s : Stream)
      → own_archive (sight history) s ≡ archive_of_stream (files_after history) s
  own_archive_is s =
      ap (λ cs. values (chunks_of_stream s cs))
      (flat_same (λ (g : Segment). chunks_in (own_files (files_after history) (SegmentFile ArchiveFolder g.number))) (segment_chunks (files_after history) ArchiveFolder) b.segments
      (λ g one. own_segment g (Contains-append_left b.segments (segment_list b.aside) g one)))

  pub own_aside_is : own_aside (sight history) ≡ aside_chunks (files_after history)
  own_aside_is = go b.aside (λ g one. own_segment g (Contains-append_right b.segments (segment_list b.aside) g one))
    where
      go : (o : Option Segment) → ((g : Segment) → Contains (segment_list o) g
          → chunks_in (own_files (files_after history) (SegmentFile ArchiveFolder g.number)) ≡ segment_chunks (files_after history) ArchiveFolder g)
          → own_chunks (sight history) ArchiveFolder (segment_list o) ≡ aside_in (files_after history) ArchiveFolder o
      go None h = refl
      go (Some g) h = append-nil (chunks_in (own_files (files_after history) (SegmentFile ArchiveFolder g.number))) ∙ h g (0, omega arith, refl)
