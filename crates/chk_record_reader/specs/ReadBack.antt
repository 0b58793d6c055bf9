-- What is read back of a record whose head is known.
use Rattle.std.specs.Prelude.{◌≡◌, ℕ, ◌+◌, ◌-◌, ◌≤◌, List, [], length, take, drop, Contains, Option, Result, Ok, Err}
use Rattle.chk_site.specs.declared.acts.OutsideFault.{OutsideFault}
use Rattle.chk_site.specs.Files.{File}
use Rattle.chk_site.specs.History.{History}
use Rattle.chk_replace.specs.Load.{Has}
use Rattle.chk_chunk.specs.Keys.{Chunk}
use Rattle.chk_record_index.specs.Heads.{Head, heads_in}
use Rattle.chk_record_index.specs.Pieces.{bytes_in}
use Rattle.chk_record_index.specs.declared.fault.JobFault.{JobFault}
use Rattle.chk_record_index.specs.declared.fault.JobFault.TheVariants.{Damaged}
use Rattle.chk_record_reader.specs.Spans.{record_size, key_size, IsValueSpan, NoValueSpan}
use Rattle.chk_record_reader.specs.declared.reader.RecordReader.{RecordReader}

-- the value of the record that stands at this place, by its two numbers
abbrev pub value_at : ℕ → List ℕ → List ℕ
value_at at bytes =
    take (record_size at bytes - key_size at bytes - 4) (drop (at + 12 + key_size at bytes) bytes)

-- the chunk that a head stands for, its file's bytes being these
abbrev pub chunk_at : List ℕ → Head → Chunk
chunk_at bytes h = record { key = h.key; value = value_at h.at bytes }

-- the value that the reader holds
abbrev pub value_held : RecordReader → List ℕ
value_held r = take r.size (drop r.start r.bytes)

-- its window has no bytes
abbrev pub HoldsNothing : RecordReader → Type 0
HoldsNothing r = r.bytes ≡ []

-- where its window is of the file of this number, it is what this file has there
abbrev pub IsWindowOf : ℕ → Option File → RecordReader → Type 0
IsWindowOf number f r = r.file ≡ number → r.bytes ≡ take (length r.bytes) (drop r.from
    (bytes_in f))

-- before a fetch: the head is one of those that this file has, which is still so, and a window of
-- it is true
pub record CanRead (most : ℕ) (name : List ℕ) (f : Option File) (h : Head) (r : RecordReader)
    (history : History) : Type 0 where
  pub has : Has name f history
  pub known : Contains (heads_in most h.file (bytes_in f)) h
  pub window : IsWindowOf h.file f r

-- at Ok the value is that of the head's record, the window is one of its file, and the file is
-- still so; it is never damaged
abbrev pub HasRead : List ℕ → Option File → Head → RecordReader → Result (Unit {0}) JobFault
    → History → Type 0
HasRead name f h r (Ok value) history =
    Has name f history × (r.file ≡ h.file) × IsWindowOf h.file f r × (value_held r ≡ value_at h.at
    (bytes_in f))
HasRead name f h r (Err (Damaged which at)) history = ⊥
HasRead name f h r (Err fault) history = Unit {0}

-- damage is of this file, at the head's record
abbrev pub IsDamageOf : List ℕ → Head → JobFault → Type 0
IsDamageOf name h (Damaged which at) = (which ≡ name) × (at ≡ h.at)
IsDamageOf name h fault = Unit {0}

-- the window has the head's record, and its value is held
pub record IsHeld (h : Head) (old new : RecordReader) : Type 0 where
  pub file : new.file ≡ old.file
  pub from : new.from ≡ old.from
  pub bytes : new.bytes ≡ old.bytes
  pub of : old.file ≡ h.file
  pub behind : old.from ≤ h.at
  pub stands : IsValueSpan old.bytes (h.at - old.from) (h.key.seq - h.begin) new.start new.size

-- the window doesn't have it, and the reader is as before
pub record NotHeld (h : Head) (old new : RecordReader) : Type 0 where
  pub same : new ≡ old
  pub none : old.file ≡ h.file → old.from ≤ h.at → NoValueSpan old.bytes (h.at - old.from)
      (h.key.seq - h.begin)

-- where the value stands in the window
pub record StandsAt (h : Head) (r : RecordReader) (start size : ℕ) : Type 0 where
  pub of : r.file ≡ h.file
  pub behind : r.from ≤ h.at
  pub stands : IsValueSpan r.bytes (h.at - r.from) (h.key.seq - h.begin) start size

abbrev pub StandsNowhere : Head → RecordReader → Type 0
StandsNowhere h r = r.file ≡ h.file → r.from ≤ h.at → NoValueSpan r.bytes (h.at - r.from)
    (h.key.seq - h.begin)

-- at Ok the window is what the file of this number has from this place on, so many bytes
abbrev pub HasWindow : List ℕ → Option File → ℕ → ℕ → ℕ → RecordReader → Result (Unit
    {0}) OutsideFault → History → Type 0
HasWindow name f number from size r (Ok value) history =
    Has name f history × (r.file ≡ number) × (r.from ≡ from) × (r.bytes ≡ take size (drop from
    (bytes_in f)))
HasWindow name f number from size r (Err fault) history = Unit {0}
