-- The longest sound front of a SequenceFile, and what can be read of a damaged one.
use Rattle.std.specs.Prelude.{◌≡◌, ℕ, zero, suc, ◌+◌, ◌-◌, ◌≤◌, nat_eq, true, false, List, [], ◌∷◌, length, take, drop, unwrap_or, Option, Some, None, Result, Ok, Err}
use Rattle.std.specs.List.{starts_with}
use Rattle.chk_seqfile.specs.declared.entries.Why.{Why}
use Rattle.chk_seqfile.specs.declared.headers.HeaderRef.{HeaderRef}
use Rattle.chk_seqfile.specs.declared.headers.HeaderFault.{HeaderFault}
use Rattle.chk_seqfile.specs.Headers.{read_header}
use Rattle.chk_salvage.specs.declared.lists.Span.{Span}
use Rattle.chk_seqfile.specs.Entries.{IsSequenceFile, sync_entry, NoEntry, SyncEntry, RecordEntry, Damaged, entry_at, Placed, placed, size_of_record}

-- the first n bytes are the longest front that is a SequenceFile
pub record IsFront (bytes : List ℕ) (n : ℕ) : Type 0 where
  pub within : n ≤ length bytes
  pub sound : IsSequenceFile (take n bytes)
  pub longest : (m : ℕ) → m ≤ length bytes → IsSequenceFile (take m bytes) → m ≤ n

-- the bytes up to a place are a SequenceFile with this marker
pub record IsReadSo (marker bytes : List ℕ) (place : ℕ) : Type 0 where
  pub within : place ≤ length bytes
  pub file : IsSequenceFile (take place bytes)
  pub marker_is : file.marker ≡ marker

-- the entry at this place can't be read, for this reason
abbrev pub DamageAt : List ℕ → List ℕ → ℕ → Why → Type 0
DamageAt marker bytes n why = entry_at marker (drop n bytes) ≡ Damaged why

-- some entry can't be read there
abbrev pub IsDamaged : List ℕ → List ℕ → ℕ → Type 0
IsDamaged marker bytes n = (why : Why) × DamageAt marker bytes n why

-- the first place from the one given at which a whole sync entry stands, in the bytes from that place on
abbrev pub next_sync : List ℕ → ℕ → List ℕ → Option ℕ
next_sync marker at [] = None
next_sync marker at (b ∷ bytes) =
    elim (starts_with nat_eq (b ∷ bytes) (sync_entry marker)) [ true ↦ Some at | false ↦ next_sync marker (at + 1) bytes ]

-- a record that was read, or a range that was skipped
pub data Item : Type 0 where
  Kept : Placed → Item
  Skipped : ℕ → ℕ → Item

-- where a skipped range ends that begins at this place: at the next sync entry, else at the end of the bytes
abbrev pub skip_end : List ℕ → ℕ → List ℕ → ℕ
skip_end marker at bytes = unwrap_or (next_sync marker (at + 1) (drop 1 bytes)) (at + length bytes)

-- what can be read from a place on, of the bytes there: each damage is skipped up to the next sync entry; fuel is at
-- least the number of bytes
abbrev pub salvaged_from : ℕ → List ℕ → ℕ → List ℕ → List Item
salvaged_from zero marker at bytes = []
salvaged_from (suc fuel) marker at bytes =
    elim (entry_at marker bytes) [
      | NoEntry ↦ []
      | SyncEntry ↦ salvaged_from fuel marker (at + 20) (drop 20 bytes)
      | RecordEntry key value ↦
          Kept (placed at key value)
          ∷ salvaged_from fuel marker (at + size_of_record key value) (drop (size_of_record key value) bytes)
      | Damaged why ↦
          Skipped at (skip_end marker at bytes)
          ∷ salvaged_from fuel marker (skip_end marker at bytes) (drop (skip_end marker at bytes - at) bytes)
    ]

-- the same with enough fuel
abbrev pub salvaged_at : List ℕ → ℕ → List ℕ → List Item
salvaged_at marker at bytes = salvaged_from (length bytes) marker at bytes

-- what can be read behind a header
abbrev pub salvaged_behind : Result HeaderRef HeaderFault → List ℕ → List Item
salvaged_behind (Ok head) bytes = salvaged_at head.marker head.end (drop head.end bytes)
salvaged_behind (Err fault) bytes = []

-- the records and the skipped ranges of a file, in order
unfoldable pub salvage_of : List ℕ → List Item
salvage_of bytes = salvaged_behind (read_header bytes) bytes

-- the records among them
abbrev pub kept : List Item → List Placed
kept [] = []
kept (Kept r ∷ items) = r ∷ kept items
kept (Skipped begin end ∷ items) = kept items

-- the skipped ranges among them
abbrev pub skipped : List Item → List Span
skipped [] = []
skipped (Kept r ∷ items) = skipped items
skipped (Skipped begin end ∷ items) = record { begin = begin; end = end } ∷ skipped items
