-- The files of a folder's named segments, and their records.
use Rattle.std.specs.Prelude.{◌≡◌, ℕ, ◌+◌, List, [], ◌∷◌, ◌++◌, map, flat_map, Contains, Result, Ok, Err}
use Rattle.chk_site.specs.Files.{Files, IsSettled}
use Rattle.chk_site.specs.Effect.{IsSmallFile}
use Rattle.chk_site.specs.History.{Step, History}
use Rattle.chk_replace.specs.Load.{Has}
use Rattle.chk_chunk.specs.Keys.{Chunk}
use Rattle.chk_world.specs.Books.{Segment, Book, AllChunks, chunks_within}
use Rattle.chk_world.specs.JobSteps.{SparesFile}
use Rattle.chk_world.proofs.Each.{Each}
use Rattle.chk_record_index.specs.Heads.{Head, heads_in}
use Rattle.chk_record_index.specs.Feeding.{IsBadAt}
use Rattle.chk_record_index.specs.Pieces.{bytes_in}
use Rattle.chk_record_index.specs.declared.fault.JobFault.{JobFault}
use Rattle.chk_record_index.specs.declared.fault.JobFault.TheVariants.{Damaged}
use Rattle.chk_book.specs.Folders.{segment_name}

-- the names of the segments that a book names, in its order; the aside segment isn't one of them
abbrev pub names_of : List ℕ → Book → List (List ℕ)
names_of folder b = map (λ (g : Segment). segment_name folder g.number) b.segments

-- the files of these names are these
abbrev pub HasFiles : List (List ℕ) → Files → History → Type 0
HasFiles names held history = (w : List ℕ) → Contains names w → Has w (held w) history

-- a step of others leaves each of them as it is
abbrev pub SparesFiles : List (List ℕ) → History → Step → Type 0
SparesFiles names before step = (w : List ℕ) → Contains names w → SparesFile w before step

-- each of them is wholly on the disk, and no larger than a file can be
abbrev pub AreSettled : List (List ℕ) → Files → Type 0
AreSettled names held = (w : List ℕ) → Contains names w → IsSettled (held w) × IsSmallFile (held w)

-- the file has chunks alone, of at most so many bytes
abbrev pub IsSound : ℕ → Files → List ℕ → Type 0
IsSound most held w = AllChunks most (bytes_in (held w))

-- the heads of the records in these files, file after file; the first one has this number
abbrev pub heads_from : ℕ → Files → ℕ → List (List ℕ) → List Head
heads_from most held number [] = []
heads_from most held number (w ∷ ws) = heads_in most number (bytes_in
    (held w)) ++ heads_from most held (number + 1) ws

-- their records, file after file
abbrev pub chunks_in_files : ℕ → Files → List (List ℕ) → List Chunk
chunks_in_files most held names = flat_map (λ w. chunks_within most (bytes_in (held w))) names

-- the file of this name is the first one that isn't of chunks alone, from this place on
pub record IsBadFile (most : ℕ) (held : Files) (names : List (List ℕ)) (name : List ℕ)
    (at : ℕ) : Type 0 where
  pub front : List (List ℕ)
  pub back : List (List ℕ)
  pub split : names ≡ front ++ name ∷ back
  pub sound : Each (IsSound most held) front
  pub bad : IsBadAt most (bytes_in (held name)) at

-- at Ok these are the heads of the files' records, each of the files is sound, and they are as
-- they were; damage is of the first
-- one that isn't sound
abbrev pub GatheredAll : ℕ → List (List ℕ) → Files → Result (List Head) JobFault → History → Type 0
GatheredAll most names held (Ok heads) history =
    HasFiles names held history × Each (IsSound most held) names × (heads
    ≡ heads_from most held 0 names)
GatheredAll most names held (Err (Damaged name at)) history = IsBadFile most held names name at
GatheredAll most names held (Err fault) history = Unit {0}
