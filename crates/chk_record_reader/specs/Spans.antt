-- Where a record's value stands in bytes, and what one run of a file's bytes is.
use Rattle.std.specs.Prelude.{◌≡◌, ℕ, ◌+◌, ◌-◌, ◌≤◌, min, List, length, take, drop, Option, Result, Ok, Err}
use Rattle.chk_bytes.specs.Numbers.{spelled_at}
use Rattle.chk_site.specs.declared.acts.OutsideFault.{OutsideFault}
use Rattle.chk_site.specs.Files.{File}
use Rattle.chk_site.specs.History.{History}
use Rattle.chk_replace.specs.Load.{Has}
use Rattle.chk_chunk.specs.Keys.{record_limit}
use Rattle.chk_record_index.specs.Heads.{Head}
use Rattle.chk_record_index.specs.Pieces.{bytes_in}

-- the first number of a record, that of its bytes behind eight; and the second one, that of its
-- key's part
abbrev pub record_size : ℕ → List ℕ → ℕ
record_size at bytes = spelled_at at 4 bytes

abbrev pub key_size : ℕ → List ℕ → ℕ
key_size at bytes = spelled_at (at + 4) 4 bytes

-- by its numbers the record at this place has a value of so many bytes, and all of it is there;
-- the value stands so
pub record IsValueSpan (bytes : List ℕ) (at size start len : ℕ) : Type 0 where
  pub numbers : at + 8 ≤ length bytes
  pub fits : record_size at bytes ≡ key_size at bytes + 4 + size
  pub starts : start ≡ at + 12 + key_size at bytes
  pub same : len ≡ size
  pub within : start + len ≤ length bytes

-- there is no such record
abbrev pub NoValueSpan : List ℕ → ℕ → ℕ → Type 0
NoValueSpan bytes at size = IsValueSpan bytes at size (at + 12 + key_size at bytes) size → ⊥

-- how many bytes a word of a key has
abbrev pub counted_room : List ℕ → ℕ
counted_room word = min (length word) 4096

-- the most bytes that a head's record has
abbrev pub room_of : Head → ℕ
room_of h =
    41 + (counted_room h.key.stream.source + counted_room h.key.stream.kind + counted_room
    h.key.stream.name
    + counted_room h.key.cluster) + min (h.key.seq - h.begin) record_limit

-- at Ok the bytes are those of the file from this place on, at most so many, and the file is still
-- this one
abbrev pub HasRun : List ℕ → ℕ → ℕ → Option File → Result (List ℕ) OutsideFault → History → Type 0
HasRun name at max file (Ok bytes) history = Has name file history × (bytes ≡ take max (drop at
    (bytes_in file)))
HasRun name at max file (Err fault) history = Unit {0}

-- at Ok the other file is still this one
abbrev pub StaysAtOk : {T E : Type 0} → List ℕ → Option File → Result T E → History → Type 0
StaysAtOk other file (Ok value) history = Has other file history
StaysAtOk other file (Err fault) history = Unit {0}
