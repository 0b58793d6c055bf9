-- What is gathered of the files that an archive run reads.
use Rattle.std.specs.Prelude.{◌≡◌, ℕ, ◌+◌, true, IsTrue, List, [], ◌∷◌, ◌++◌, Contains, Option, Some, None, Result, Ok, Err}
use Rattle.chk_bytes.specs.Stems.{Stem, is_count}
use Rattle.chk_site.specs.Files.{File}
use Rattle.chk_site.specs.Effect.{IsSmallFile}
use Rattle.chk_site.specs.History.{History}
use Rattle.chk_chunk.specs.Keys.{chunk_limit}
use Rattle.chk_world.specs.Names.{ArchiveFolder, Name, BookFile, SegmentFile, DoneFile, read}
use Rattle.chk_world.specs.Books.{AllChunks}
use Rattle.chk_world.specs.Rules.{Legal}
use Rattle.chk_world.specs.Places.{AtTold}
use Rattle.chk_world.specs.Sight.{job, Sight, shows_done, AtJob}
use Rattle.chk_record_index.specs.Heads.{Head, heads_in}
use Rattle.chk_record_index.specs.Pieces.{bytes_in}
use Rattle.chk_record_index.specs.declared.fault.JobFault.{JobFault}
use Rattle.chk_record_index.specs.declared.fault.JobFault.TheVariants.{Damaged}

-- the file of this name, as far as the job knows it
abbrev pub held_at : Sight → Name → Option File
held_at v (BookFile folder) = v.own (BookFile folder)
held_at v (SegmentFile folder k) = v.own (SegmentFile folder k)
held_at v (DoneFile x) = v.sinks x
held_at v n = None

abbrev pub held : Sight → List ℕ → Option File
held v w = held_at v (read w)

-- the archive's book, a segment of it, or a done sink that the last listing showed
pub data CanBeRead (v : Sight) : Name → Type 0 where
  own_book_file : CanBeRead v (BookFile ArchiveFolder)
  own_segment : (k : ℕ) → IsTrue (is_count k) → CanBeRead v (SegmentFile ArchiveFolder k)
  shown_sink : (x : Stem) → shows_done v.listing x ≡ true → CanBeRead v (DoneFile x)

-- the file is there, and all its records are chunks
pub record IsSoundFile (v : Sight) (w : List ℕ) : Type 0 where
  pub can : CanBeRead v (read w)
  pub file : File
  pub there : held v w ≡ Some file
  pub chunks : AllChunks chunk_limit file.bytes
  pub small : IsSmallFile (held v w)

abbrev pub AreSound : Sight → List (List ℕ) → Type 0
AreSound v ws = (w : List ℕ) → Contains ws w → IsSoundFile v w

-- the heads of these files' records, file after file; the first one has this number
abbrev pub heads_of : Sight → ℕ → List (List ℕ) → List Head
heads_of v number [] = []
heads_of v number (w ∷ ws) = heads_in chunk_limit number (bytes_in (held v w)) ++ heads_of v
    (number + 1) ws

-- at Ok these are the heads, and the job knows what it knew; none of the files is damaged
abbrev pub Found : List (List ℕ) → Sight → List (List ℕ) → Result (List Head) JobFault → History
    → Type 0
Found stamped v ws (Ok heads) history = AtJob stamped
    (λ u. (u ≡ v) × (heads ≡ heads_of v 0 ws)) history
Found stamped v ws (Err (Damaged name at)) history = AtTold stamped job (λ h. ⊥) history
Found stamped v ws (Err fault) history = Legal stamped history
