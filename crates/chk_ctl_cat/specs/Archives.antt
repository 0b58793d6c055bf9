-- What is printed of the segments that a book names.
use Rattle.std.specs.Prelude.{◌≡◌, ℕ, ◌<◌, ◌^◌, List, [], ◌∷◌, ◌++◌, length, map, Some, None, Result, Ok, Err}
use Rattle.chk_bytes.specs.Words.{BeginsWith}
use Rattle.chk_site.specs.Files.{File, Files}
use Rattle.chk_site.specs.History.{History, files_after}
use Rattle.chk_chunk.specs.Keys.{Chunk}
use Rattle.chk_seqfile.specs.Entries.{records_of}
use Rattle.chk_world.specs.Books.{Segment, AllChunks, chunks_within}
use Rattle.chk_world.proofs.Each.{Each}
use Rattle.chk_record_index.specs.Feeding.{AreChunks}
use Rattle.chk_record_index.specs.Pieces.{bytes_in}
use Rattle.chk_book.specs.Folders.{segment_name}
use Rattle.chk_ctl_cat.specs.declared.course.Course.{Course}
use Rattle.chk_ctl_cat.specs.declared.fault.LookFault.{LookFault}
use Rattle.chk_ctl_cat.specs.declared.fault.LookFault.TheVariants.{Damaged, Gone}
use Rattle.chk_ctl_cat.specs.Courses.{KeepsCourse, GoesOver, wanted_by}
use Rattle.chk_ctl_cat.specs.Looking.{AreOrWent}
use Rattle.chk_ctl_cat.specs.Segments.{IsWrongAt}

-- the names of the segments that a book names, in its order; the aside segment isn't one of them
abbrev pub names_of : List ℕ → List Segment → List (List ℕ)
names_of folder gs = map (λ (g : Segment). segment_name folder g.number) gs

-- the chunks of these files, file after file
abbrev pub chunks_held : ℕ → Files → List (List ℕ) → List Chunk
chunks_held most held [] = []
chunks_held most held (w ∷ ws) = chunks_within most (bytes_in (held w)) ++ chunks_held most held ws

-- each of these files is known, and no larger than a file can be
abbrev pub AreHeld : List (List ℕ) → Files → Type 0
AreHeld names held = Each (λ w. (f : File) × (held w ≡ Some f) × (length f.bytes < 2 ^ 63)) names

-- the files are of chunks, the course went over all of them up to this offset, and the text is what is wanted of them
pub record IsWholeArchive (most : ℕ) (c : Course) (to : ℕ) (names : List (List ℕ)) (held : Files) (text : List ℕ) : Type 0 where
  pub sound : Each (λ w. AllChunks most (bytes_in (held w))) names
  pub over : GoesOver c (chunks_held most held names) to
  pub printed : text ≡ wanted_by c (chunks_held most held names)

-- the first bytes of the first of these files, if there is one
abbrev pub BeginNext : Files → List (List ℕ) → List ℕ → Type 0
BeginNext held [] bytes = bytes ≡ []
BeginNext held (w ∷ ws) bytes = BeginsWith (bytes_in (held w)) bytes

-- some files, and the first bytes of the next one, are of chunks, the course went over them up to this offset, and the text
-- is what is wanted of them
pub record IsFrontArchive (most : ℕ) (c : Course) (to : ℕ) (names : List (List ℕ)) (held : Files) (text : List ℕ) : Type 0 where
  pub front : List (List ℕ)
  pub back : List (List ℕ)
  pub split : names ≡ front ++ back
  pub bytes : List ℕ
  pub begin : BeginNext held back bytes
  pub sound : Each (λ w. AllChunks most (bytes_in (held w))) front
  pub chunks : AreChunks most (records_of bytes)
  pub over : GoesOver c (chunks_held most held front ++ chunks_within most bytes) to
  pub printed : text ≡ wanted_by c (chunks_held most held front ++ chunks_within most bytes)

-- the first of the files that is wrong: those before it are of chunks, the course went over them, and this one is wrong there
pub record IsWrongIn (most : ℕ) (c : Course) (names : List (List ℕ)) (held : Files) (which : List ℕ) (at : ℕ) : Type 0 where
  pub front : List (List ℕ)
  pub back : List (List ℕ)
  pub split : names ≡ front ++ which ∷ back
  pub there : Course
  pub keeps : KeepsCourse c there
  pub sound : Each (λ w. AllChunks most (bytes_in (held w))) front
  pub over : GoesOver c (chunks_held most held front) there.reached
  pub wrong : IsWrongAt most there (bytes_in (held which)) at

-- this one of the files isn't there
pub record HasLost (names : List (List ℕ)) (which : List ℕ) (history : History) : Type 0 where
  pub front : List (List ℕ)
  pub back : List (List ℕ)
  pub split : names ≡ front ++ which ∷ back
  pub lost : files_after history which ≡ None

-- what was printed of the files of these names, by the result
abbrev pub PrintedAll : ℕ → List (List ℕ) → Course → Course → Result (Unit {0}) LookFault → Files → List ℕ → History → Type 0
PrintedAll most names old new (Ok value) held text history = AreOrWent held history
    × (AreHeld names held → IsWholeArchive most old new.reached names held text)
PrintedAll most names old new (Err (Gone which)) held text history = AreOrWent held history
    × HasLost names which history
    × (AreHeld names held → IsFrontArchive most old new.reached names held text)
PrintedAll most names old new (Err (Damaged which at)) held text history =
    AreHeld names held → IsWrongIn most old names held which at × IsFrontArchive most old new.reached names held text
PrintedAll most names old new (Err fault) held text history =
    AreHeld names held → (to : ℕ) × IsFrontArchive most old to names held text
