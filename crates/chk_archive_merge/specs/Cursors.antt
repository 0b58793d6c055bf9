-- Where a cursor stands among the records of a file.
use Rattle.std.specs.Prelude.{◌≡◌, ℕ, ◌+◌, ◌-◌, ◌<◌, ◌≤◌, Bool, true, false, List, [], ◌∷◌, ◌++◌, take, drop, Option, Some, None, Result, Ok, Err}
use Rattle.chk_bytes.specs.Words.{BeginsWith}
use Rattle.chk_site.specs.Files.{Files}
use Rattle.chk_site.specs.History.{History}
use Rattle.chk_chunk.specs.Keys.{Key, Chunk, read_key, chunk_begin, same_stream}
use Rattle.chk_seqfile.specs.Entries.{IsSequenceFile, Placed, records_of}
use Rattle.chk_salvage.specs.declared.fed.Fed.TheVariants.{More}
use Rattle.chk_salvage.specs.Feeding.{fed_place, fed_limit, fed_marker, IsFed, Stands}
use Rattle.chk_world.specs.Books.{End, chunk_with}
use Rattle.chk_record_index.specs.Pieces.{asks_for, bytes_in}
use Rattle.chk_record_index.specs.declared.fault.JobFault.{JobFault}
use Rattle.chk_record_reader.specs.Segments.{HasFiles}
use Rattle.chk_archive_merge.specs.declared.cursor.Cursor.{Cursor}
use Rattle.chk_archive_merge.specs.declared.cursor.Taken.{Taken}
use Rattle.chk_archive_merge.specs.declared.cursor.Taken.TheVariants as taken

-- at Ok the bytes are what the file of this name has from this place on, at most so many; it and all
-- the others are still these
abbrev pub HasShort : List (List ℕ) → Files → List ℕ → ℕ → Result (List ℕ) JobFault → History → Type 0
HasShort names held name at (Ok bytes) history =
    HasFiles names held history × (bytes ≡ take (asks_for 262144 at) (drop at (bytes_in (held name))))
HasShort names held name at (Err fault) history = Unit {0}

-- the cursor was fed a front of the bytes, or all of them, and has gone over just these records of it
pub record HasGone (bytes : List ℕ) (c : Cursor) (records : List Placed) : Type 0 where
  pub fed : List ℕ
  pub front : BeginsWith bytes fed
  pub state : IsFed c.pieces fed
  pub gone : records_of (take (fed_place c.pieces) fed) ≡ records
  pub all : c.whole ≡ true → bytes ≡ fed

-- at Ok the files are still these, and the reader was fed more of this one; or it was fed all of it
abbrev pub FedMore : List (List ℕ) → Files → List ℕ → Cursor → Cursor → Result Bool JobFault → History
    → Type 0
FedMore names held name old new (Ok true) history =
    HasFiles names held history × ((records : List Placed) → HasGone (bytes_in (held name)) old records
    → HasGone (bytes_in (held name)) new records)
FedMore names held name old new (Ok false) history =
    HasFiles names held history × (new ≡ old) × ((records : List Placed) (gone : HasGone (bytes_in (held name)) old records)
    → bytes_in (held name) ≡ gone.fed)
FedMore names held name old new (Err fault) history = Unit {0}

-- the cursor holds a record that was fed; or nothing more was fed; or the rest is no record
abbrev pub Took : Taken → Cursor → Cursor → Type 0
Took taken.Record old new =
    (new.held ≡ true) × ((fed : List ℕ) → IsFed old.pieces fed → IsFed new.pieces fed
    × ((r : Placed) × (r.key ≡ new.key) × (r.value ≡ new.value)
    × (records_of (take (fed_place new.pieces) fed)
    ≡ records_of (take (fed_place old.pieces) fed) ++ r ∷ []))) × (new.whole ≡ old.whole)
Took taken.More old new =
    (new.held ≡ false) × ((fed : List ℕ) → IsFed old.pieces fed → IsFed new.pieces fed
    × (records_of (take (fed_place new.pieces) fed) ≡ records_of (take (fed_place old.pieces) fed))
    × Stands (fed_limit new.pieces) fed (fed_marker new.pieces) (fed_place new.pieces) More)
    × (new.whole ≡ old.whole)
Took taken.Wrong old new = Unit {0}

-- these records of the file are behind the cursor, and it holds the next one; or all are behind it
pub data StandsBehind (bytes : List ℕ) (c : Cursor) (done : List Placed) : Type 0 where
  at_record : (r : Placed) → c.held ≡ true → r.key ≡ c.key → r.value ≡ c.value
      → HasGone bytes c (done ++ r ∷ []) → StandsBehind bytes c done
  at_end : c.held ≡ false → IsSequenceFile bytes → records_of bytes ≡ done
      → StandsBehind bytes c done

-- at Ok the files are still these, and the cursor stands behind the records that were gone over, if
-- it could go on
abbrev pub Advanced : List (List ℕ) → Files → List ℕ → Cursor → Cursor → Result Bool JobFault → History
    → Type 0
Advanced names held name old new (Ok true) history =
    HasFiles names held history × ((records : List Placed) → HasGone (bytes_in (held name)) old records
    → StandsBehind (bytes_in (held name)) new records)
Advanced names held name old new (Ok false) history = HasFiles names held history
Advanced names held name old new (Err fault) history = Unit {0}

-- at Ok with an answer it has gone on or can't; with none it was fed more
abbrev pub Stepped : List (List ℕ) → Files → List ℕ → Cursor → Cursor → Result (Option Bool) JobFault
    → History → Type 0
Stepped names held name old new (Ok (Some on)) history = Advanced names held name old new (Ok on) history
Stepped names held name old new (Ok None) history =
    HasFiles names held history × ((records : List Placed) → HasGone (bytes_in (held name)) old records
    → HasGone (bytes_in (held name)) new records)
Stepped names held name old new (Err fault) history = Unit {0}

-- the same where nothing more was taken of what was fed before
abbrev pub ReadOn : List (List ℕ) → Files → List ℕ → Cursor → Cursor → Result (Option Bool) JobFault
    → History → Type 0
ReadOn names held name old new result history =
    (first : Cursor) → Took taken.More first old → Stepped names held name first new result history

-- the record that the cursor holds is this chunk, which goes on in the end's stream from this offset
pub record IsNext (most : ℕ) (e : End) (reached : ℕ) (c : Cursor) (d : Chunk) : Type 0 where
  pub held : c.held ≡ true
  pub is : chunk_with most (read_key c.key) c.value ≡ Some d
  pub of : same_stream e.stream d.key.stream ≡ true
  pub start : d.key.start ≡ e.start
  pub begins : chunk_begin d ≡ reached
  pub further : reached < d.key.seq
  pub within : d.key.seq ≤ e.end

-- a value of this size with this key is a chunk that goes on so
pub record GoesOn (k : Key) (size : ℕ) (e : End) (reached most : ℕ) : Type 0 where
  pub some : 0 < size
  pub few : size ≤ most
  pub fits : k.start + size ≤ k.seq
  pub start : k.start ≡ e.start
  pub begins : k.seq - size ≡ reached
  pub within : k.seq ≤ e.end
