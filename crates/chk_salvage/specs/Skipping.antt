-- Going on over entries that were read.
use Rattle.std.specs.Prelude.{◌≡◌, ℕ, ◌+◌, ◌^◌, ◌<◌, ◌≤◌, List, [], ◌++◌, length, drop}
use Rattle.chk_seqfile.specs.Entries.{Entries, SyncEntry, entry_at, records_at, record_entry, size_of_record}
use Rattle.chk_salvage.specs.declared.entry.Seen.{Seen}
use Rattle.chk_salvage.specs.declared.entry.Seen.TheVariants as seen
use Rattle.chk_salvage.specs.Front.{IsReadSo, salvaged_at}

-- only sync entries stand between two places
pub record IsOnward (marker bytes : List ℕ) (at to : ℕ) : Type 0 where
  pub onward : at ≤ to
  pub within : to ≤ length bytes
  pub records : records_at marker at (drop at bytes) ≡ records_at marker to (drop to bytes)
  pub items : salvaged_at marker at (drop at bytes) ≡ salvaged_at marker to (drop to bytes)
  pub read : IsReadSo marker bytes at → IsReadSo marker bytes to
  pub none : (entry_at marker (drop at bytes) ≡ SyncEntry → ⊥) → to ≡ at

-- and these are they
pub record StandBetween (marker bytes : List ℕ) (at to : ℕ) : Type 0 where
  pub syncs : List ℕ
  pub form : Entries marker syncs
  pub size : at + length syncs ≡ to
  pub split : drop at bytes ≡ syncs ++ drop to bytes
  pub no_records : (place : ℕ) → records_at marker place syncs ≡ []

-- and no further one stands there
pub record IsBehindSyncs (marker bytes : List ℕ) (at to : ℕ) : Type 0 where
  pub way : IsOnward marker bytes at to
  pub between : StandBetween marker bytes at to
  pub last : entry_at marker (drop to bytes) ≡ SyncEntry → ⊥

-- a record that is seen stands there, byte for byte
abbrev pub StandsThere : Seen → List ℕ → ℕ → Type 0
StandsThere seen.Nothing bytes at = Unit {0}
StandsThere seen.Sync bytes at = Unit {0}
StandsThere (seen.Record key value) bytes at = (8 + length key.now + length value.now < 2 ^ 31)
    × (drop at bytes ≡ record_entry key.now value.now ++ drop (at + size_of_record key.now value.now) bytes)
StandsThere (seen.Damaged why) bytes at = Unit {0}
