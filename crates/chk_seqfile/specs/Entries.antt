-- The entries of a SequenceFile: the grammar of whole files, how one entry after the other is read, and what is
-- written for a record.
use Rattle.std.specs.Prelude.{◌≡◌, ◌⊎◌, ℕ, zero, suc, ◌+◌, ◌-◌, ◌<◌, ◌^◌, ◌&&◌, ◌||◌, ◌==◌, nat_eq, nat_lt, nat_le, Bool, List, [], ◌∷◌, ◌++◌, length, take, drop, bytes_eq, filter, if◌then◌else◌, Result, Ok, Err}
use Rattle.chk_bytes.specs.Numbers.{be32, spelled_at, with_length}
use Rattle.chk_bytes.specs.Words.{joined}
use Rattle.chk_seqfile.specs.declared.entries.Why.{Why}
use Rattle.chk_seqfile.specs.declared.entries.Why.TheVariants.{Torn, BadLength, BadMarker}
use Rattle.chk_seqfile.specs.declared.headers.HeaderRef.{HeaderRef}
use Rattle.chk_seqfile.specs.declared.headers.HeaderFault.{HeaderFault}
use Rattle.chk_seqfile.specs.Headers.{read_header}
use Rattle.chk_seqfile.specs.HeaderGrammar.{IsHeader}

-- four bytes 255, and the marker
abbrev pub sync_entry : List ℕ → List ℕ
sync_entry marker = 255 ∷ 255 ∷ 255 ∷ 255 ∷ marker

-- a record: its length, its key's, and the two parts
abbrev pub record_entry : List ℕ → List ℕ → List ℕ
record_entry key value =
    be32 (8 + length key + length value) ++ (be32 (4 + length key) ++ (with_length key ++ with_length value))

-- the bytes are a record
pub record IsRecord (bytes : List ℕ) : Type 0 where
  pub key : List ℕ
  pub value : List ℕ
  pub small : 8 + length key + length value < 2 ^ 31
  pub is : bytes ≡ record_entry key value

-- the bytes are a sync entry or a record
abbrev pub IsEntry : List ℕ → List ℕ → Type 0
IsEntry marker bytes = (bytes ≡ sync_entry marker) ⊎ IsRecord bytes

-- each piece is an entry
abbrev pub AreEntries : List ℕ → List (List ℕ) → Type 0
AreEntries marker [] = Unit {0}
AreEntries marker (e ∷ es) = IsEntry marker e × AreEntries marker es

-- sync entries and records, one after the other
pub record Entries (marker bytes : List ℕ) : Type 0 where
  pub pieces : List (List ℕ)
  pub each : AreEntries marker pieces
  pub is : bytes ≡ joined pieces

-- a header, and then entries with its marker
pub record IsSequenceFile (bytes : List ℕ) : Type 0 where
  pub marker : List ℕ
  pub head : List ℕ
  pub entries : List ℕ
  pub is : bytes ≡ head ++ entries
  pub header : IsHeader marker head
  pub form : Entries marker entries

-- what stands first in these bytes
pub data Entry : Type 0 where
  NoEntry : Entry
  SyncEntry : Entry
  RecordEntry : List ℕ → List ℕ → Entry
  Damaged : Why → Entry

-- a record whose lengths are those of its parts
abbrev pub fitting : ℕ → ℕ → List ℕ → Entry
fitting r k bytes =
    if nat_eq (spelled_at 8 4 bytes + 4) k && nat_eq (spelled_at (8 + k) 4 bytes + 4) (r - k)
    then RecordEntry (take (k - 4) (drop 12 bytes)) (take (r - k - 4) (drop (12 + k) bytes)) else Damaged BadLength

-- the record of these two lengths that stands first
abbrev pub record_of : ℕ → ℕ → List ℕ → Entry
record_of r k bytes =
    if nat_lt r k || (nat_lt k 4 || nat_lt (r - k) 4) then Damaged BadLength
    else if nat_lt (length bytes) (8 + r) then Damaged Torn else fitting r k bytes

-- what stands first behind four bytes 255
abbrev pub sync_or_not : List ℕ → List ℕ → Entry
sync_or_not marker bytes =
    if nat_lt (length bytes) 20 then Damaged Torn
    else if bytes_eq (take 16 (drop 4 bytes)) marker then SyncEntry else Damaged BadMarker

-- what stands first, the first thing that is wrong deciding
unfoldable pub entry_at : List ℕ → List ℕ → Entry
entry_at marker bytes =
    if length bytes == 0 then NoEntry
    else if nat_lt (length bytes) 4 then Damaged Torn
    else if spelled_at 0 4 bytes == 0xFFFFFFFF then sync_or_not marker bytes
    else if nat_le (2 ^ 31) (spelled_at 0 4 bytes) then Damaged BadLength
    else if nat_lt (length bytes) 8 then Damaged Torn
    else record_of (spelled_at 0 4 bytes) (spelled_at 4 4 bytes) bytes

-- a record with its place, the place behind it, its key and its value
pub record Placed : Type 0 where
  pub at : ℕ
  pub end : ℕ
  pub key : List ℕ
  pub value : List ℕ

-- how many bytes a record has
abbrev pub size_of_record : List ℕ → List ℕ → ℕ
size_of_record key value = 16 + length key + length value

-- the record of this key and value at this place
abbrev pub placed : ℕ → List ℕ → List ℕ → Placed
placed at key value = record { at = at; end = at + size_of_record key value; key = key; value = value }

-- the records of the bytes at this place, up to their end or the first entry that can't be read; fuel is at least the
-- number of bytes
abbrev pub records_from : ℕ → List ℕ → ℕ → List ℕ → List Placed
records_from zero marker at bytes = []
records_from (suc fuel) marker at bytes =
    elim (entry_at marker bytes) [
      | NoEntry ↦ []
      | SyncEntry ↦ records_from fuel marker (at + 20) (drop 20 bytes)
      | RecordEntry key value ↦
          placed at key value
          ∷ records_from fuel marker (at + size_of_record key value) (drop (size_of_record key value) bytes)
      | Damaged why ↦ []
    ]

-- the same with enough fuel
abbrev pub records_at : List ℕ → ℕ → List ℕ → List Placed
records_at marker at bytes = records_from (length bytes) marker at bytes

-- the records behind a header
abbrev pub records_behind : Result HeaderRef HeaderFault → List ℕ → List Placed
records_behind (Ok head) bytes = records_at head.marker head.end (drop head.end bytes)
records_behind (Err fault) bytes = []

-- the records of a file in order, each with its place
unfoldable pub records_of : List ℕ → List Placed
records_of bytes = records_behind (read_header bytes) bytes

-- of these records, those that end at or before a place
abbrev pub ending_by : ℕ → List Placed → List Placed
ending_by n records = filter (λ r. nat_le r.end n) records

-- a sync entry is due where 2,000 bytes or more stand behind the last one, or behind the header
abbrev pub is_sync_due : ℕ → ℕ → Bool
is_sync_due place last_sync = nat_le (last_sync + 2000) place

-- what is written at a place for a record, where the last sync entry ended there: a sync entry first, if it is due
abbrev pub piece_at : List ℕ → ℕ → ℕ → List ℕ → List ℕ → List ℕ
piece_at marker place last_sync key value =
    if is_sync_due place last_sync then sync_entry marker ++ record_entry key value else record_entry key value

-- the place of the record in it
abbrev pub record_place : ℕ → ℕ → ℕ
record_place place last_sync = if is_sync_due place last_sync then place + 20 else place

-- where the last sync entry ends after that
abbrev pub sync_after : ℕ → ℕ → ℕ
sync_after place last_sync = if is_sync_due place last_sync then place + 20 else last_sync
