-- What is printed of one segment.
use Rattle.std.specs.Prelude.{◌≡◌, ◌⊎◌, ℕ, ◌<◌, ◌-◌, ◌^◌, min, List, [], length, take, drop, Option, Some, None, Result, Ok, Err}
use Rattle.chk_bytes.specs.Numbers.{last_number}
use Rattle.chk_bytes.specs.Words.{BeginsWith}
use Rattle.chk_site.specs.declared.acts.OutsideFault.{OutsideFault}
use Rattle.chk_site.specs.Files.{File, Files}
use Rattle.chk_site.specs.History.{History, files_after}
use Rattle.chk_seqfile.specs.Entries.{records_of}
use Rattle.chk_world.specs.Books.{AllChunks, chunks_within}
use Rattle.chk_record_index.specs.Feeding.{AreChunks, IsBadAt}
use Rattle.chk_ctl_cat.specs.declared.course.Course.{Course}
use Rattle.chk_ctl_cat.specs.declared.fault.LookFault.{LookFault}
use Rattle.chk_ctl_cat.specs.declared.fault.LookFault.TheVariants.{Damaged, Gone}
use Rattle.chk_salvage.specs.declared.pieces.Pieces.{Pieces}
use Rattle.chk_salvage.specs.Feeding.{fed_place, IsFed}
use Rattle.chk_record_index.specs.Feeding.{IsEnd}
use Rattle.chk_ctl_cat.specs.Courses.{GoesOver, wanted_by, chunks_at, IsOffAt, KeepsCourse, FollowedFed}
use Rattle.chk_ctl_cat.specs.Faults.{IsDamage}
use Rattle.chk_ctl_cat.specs.Looking.{AreOrWent}

-- the most bytes that one read asks for
abbrev pub look_limit : ℕ
look_limit = 131072

-- how many bytes a read at this place asks for, and none at or past the place 2^63 - 1
abbrev pub asks_at : ℕ → ℕ
asks_at at = min (last_number - at) look_limit

-- at Ok the piece is what the file has at this place, and it went only where it isn't there
abbrev pub Looked : List ℕ → ℕ → Result (List ℕ) LookFault → Files → List ℕ → History → Type 0
Looked name at (Ok piece) held text history = AreOrWent held history × (text ≡ [])
    × ((f : File) → held name ≡ Some f → piece ≡ take (asks_at at) (drop at f.bytes))
Looked name at (Err (Gone which)) held text history = AreOrWent held history × (which ≡ name)
    × (files_after history name ≡ None) × (text ≡ [])
Looked name at (Err (Damaged which place)) held text history = ⊥
Looked name at (Err fault) held text history = text ≡ []

-- at Ok the text was printed; else nothing was
abbrev pub Said : List ℕ → Result (Unit {0}) OutsideFault → Files → List ℕ → History → Type 0
Said given (Ok value) held text history = AreOrWent held history × (text ≡ given)
Said given (Err fault) held text history = text ≡ []

-- at Ok the text that was printed is what is wanted of what was gone over; else nothing was
abbrev pub FollowedSaid : ℕ → Course → Course → Pieces → Pieces → Result (Option ℕ) OutsideFault → Files → List ℕ → History → Type 0
FollowedSaid most old new p q (Ok stop) held text history = AreOrWent held history
    × ((fed : List ℕ) → IsFed p fed → AreChunks most (records_of (take (fed_place p) fed)) → FollowedFed most old new p q [] text fed stop)
FollowedSaid most old new p q (Err fault) held text history = text ≡ []

-- the file ends well there; or it is damaged there, by its name
abbrev pub EndsSo : List ℕ → List ℕ → ℕ → Result (Unit {0}) LookFault → Type 0
EndsSo name bytes place (Ok value) = IsEnd bytes place None
EndsSo name bytes place (Err fault) = (at : ℕ) × IsEnd bytes place (Some at) × IsDamage name at fault

-- the records of the first bytes of a file are chunks, the course went over them up to this offset, and the text is
-- what is wanted of them
pub record IsFrontText (most : ℕ) (c : Course) (to : ℕ) (bytes text : List ℕ) : Type 0 where
  pub front : List ℕ
  pub begins : BeginsWith bytes front
  pub chunks : AreChunks most (records_of front)
  pub over : GoesOver c (chunks_within most front) to
  pub printed : text ≡ wanted_by c (chunks_within most front)

-- the file is of chunks, the course went over them up to this offset, and the text is what is wanted of them
pub record IsWholeText (most : ℕ) (c : Course) (to : ℕ) (bytes text : List ℕ) : Type 0 where
  pub chunks : AllChunks most bytes
  pub over : GoesOver c (chunks_within most bytes) to
  pub printed : text ≡ wanted_by c (chunks_within most bytes)

-- the course went over the records up to a place, and the next one is off
pub record IsOffIn (most : ℕ) (c : Course) (bytes : List ℕ) (at : ℕ) : Type 0 where
  pub fed : List ℕ
  pub begins : BeginsWith bytes fed
  pub place : ℕ
  pub there : Course
  pub keeps : KeepsCourse c there
  pub chunks : AreChunks most (records_of (take place fed))
  pub over : GoesOver c (chunks_at most (records_of (take place fed))) there.reached
  pub off : IsOffAt most there fed place at

-- the file isn't one of chunks, from this place on; or the record there doesn't go on from those before it
abbrev pub IsWrongAt : ℕ → Course → List ℕ → ℕ → Type 0
IsWrongAt most c bytes at = IsBadAt most bytes at ⊎ IsOffIn most c bytes at

-- what was printed of the file of this name, by the result
abbrev pub Printed : ℕ → List ℕ → Course → Course → Result (Unit {0}) LookFault → Files → List ℕ → History → Type 0
Printed most name old new (Ok value) held text history = AreOrWent held history
    × ((f : File) → held name ≡ Some f → length f.bytes < 2 ^ 63 → IsWholeText most old new.reached f.bytes text)
Printed most name old new (Err (Gone which)) held text history = AreOrWent held history × (which ≡ name)
    × (files_after history name ≡ None)
    × ((f : File) → held name ≡ Some f → IsFrontText most old new.reached f.bytes text)
Printed most name old new (Err (Damaged which at)) held text history = (which ≡ name)
    × ((f : File) → held name ≡ Some f → length f.bytes < 2 ^ 63
    → IsWrongAt most old f.bytes at × IsFrontText most old new.reached f.bytes text)
Printed most name old new (Err fault) held text history =
    (f : File) → held name ≡ Some f → (to : ℕ) × IsFrontText most old to f.bytes text
