-- What the merging of the archive's segments leaves.
use Rattle.std.specs.Prelude.{◌≡◌, ◌⊎◌, ℕ, ◌+◌, ◌-◌, ◌<◌, ◌≤◌, ◌^◌, IsTrue, List, [], ◌∷◌, length, Contains, None, Result, Ok, Err}
use Rattle.chk_bytes.specs.Numbers.{last_number}
use Rattle.chk_bytes.specs.Stems.{is_count}
use Rattle.chk_site.specs.History.{History}
use Rattle.chk_world.specs.Names.{ArchiveFolder, SegmentFile}
use Rattle.chk_world.specs.Books.{Segment, Book}
use Rattle.chk_world.specs.ArchiveRuns.{in_order}
use Rattle.chk_world.specs.Rules.{Legal}
use Rattle.chk_world.specs.Places.{AtTold}
use Rattle.chk_world.specs.Sight.{job, Sight, own_book, own_chunks, AtJob}
use Rattle.chk_record_index.specs.declared.fault.JobFault.{JobFault}
use Rattle.chk_record_index.specs.declared.fault.JobFault.TheVariants.{Damaged, Spent}
use Rattle.chk_archive.specs.FolderNames.{names_segment}

-- Fewer than 16 segments stay, and the book with them. Else this one names their merge alone, which has the next number and all of
-- their records, unchanged, in the order of streams and of first offsets.
pub data IsMergeOf (loaded b : Book) (u : Sight) : Type 0 where
  few_stay : length loaded.segments < 16 → b ≡ loaded → IsMergeOf loaded b u
  many_merged : 16 ≤ length loaded.segments → (g : Segment) → g.number ≡ loaded.next → b.segments ≡ g ∷ []
      → b.next ≡ loaded.next + 1 → ((k : Segment) → Contains loaded.segments k → IsTrue (is_count k.number))
      → own_chunks u ArchiveFolder (g ∷ []) ≡ in_order (own_chunks u ArchiveFolder loaded.segments)
      → IsMergeOf loaded b u

-- the archive has this book; each segment file is named by it or by the one that was loaded, of which it names the segments or
-- their one merge
pub record IsMerged (loaded b : Book) (u : Sight) : Type 0 where
  pub book : own_book u ArchiveFolder ≡ b
  pub strays : (k : ℕ) → IsTrue (is_count k)
      → (u.own (SegmentFile ArchiveFolder k) ≡ None) ⊎ (IsTrue (names_segment b k) ⊎ IsTrue (names_segment loaded k))
  pub merged : IsMergeOf loaded b u

-- none of the segments is damaged; the numbers are spent only where 16 or more are to be merged, and the next number is the last
abbrev pub Merged : List (List ℕ) → Book → Book → Result Unit JobFault → History → Type 0
Merged stamped loaded b (Ok value) history = AtJob stamped (IsMerged loaded b) history
Merged stamped loaded b (Err (Damaged name at)) history = AtTold stamped job (λ h. ⊥) history
Merged stamped loaded b (Err (Spent n)) history =
    AtJob stamped (λ u. (n ≡ last_number) × (16 ≤ length loaded.segments) × (loaded.next ≡ last_number)
    × (own_book u ArchiveFolder ≡ loaded)) history
Merged stamped loaded b (Err fault) history = Legal stamped history
