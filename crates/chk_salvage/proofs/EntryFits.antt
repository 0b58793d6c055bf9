-- What is seen has its place.
use Rattle.std.proofs.Common.{◌≡◌, ℕ, ◌+◌, List, [], ◌∷◌, length, drop, refl, arith, ap, sym}
use Rattle.std.proofs.lemmas.List.{length-append, get_or-drop}
use Rattle.chk_bytes.specs.Laws.{AreBytes}
use Rattle.chk_seqfile.specs.Entries.{NoEntry, SyncEntry, sync_entry, record_entry, size_of_record, entry_at}
use Rattle.chk_seqfile.proofs.EntryLemmas.{length-record_entry, entry_at-nil}
use Rattle.chk_seqfile.proofs.FoundEntries.{record_found, sync_found, nothing_found}
use Rattle.chk_salvage.specs.declared.entry.Seen.{Seen}
use Rattle.chk_salvage.specs.declared.entry.Seen.TheVariants as seen
use Rattle.chk_salvage.specs.Views.{entry_of, IsWithin}

-- no entry stands first in no bytes alone
none_here : (marker bytes : List ℕ) → entry_at marker bytes ≡ NoEntry → length bytes ≡ 0
none_here marker bytes first = ap length (nothing_found marker bytes first)

-- what is seen fits in the bytes
pub seen_within : (marker bytes : List ℕ) (s : Seen) → length marker ≡ 16 → AreBytes bytes → entry_of s ≡ entry_at marker bytes → IsWithin s (length bytes)
seen_within marker bytes seen.Nothing wide are is = none_here marker bytes (sym is)
seen_within marker bytes seen.Sync wide are is =
    let whole = ap length (sync_found marker bytes are (sym is)) in
    omega (arith, length-append (sync_entry marker) (drop 20 bytes))
seen_within marker bytes (seen.Record key value) wide are is =
    let whole = ap length (record_found marker bytes key.now value.now are (sym is)).1 in
    omega (arith, length-append (record_entry key.now value.now) (drop (size_of_record key.now value.now) bytes), length-record_entry key.now value.now)
seen_within marker [] (seen.Damaged why) wide are is = let none = entry_at-nil marker in cc
seen_within marker (b ∷ bytes) (seen.Damaged why) wide are is = omega arith

-- the bytes behind a place are bytes
pub bytes_behind : (at : ℕ) (bytes : List ℕ) → AreBytes bytes → AreBytes (drop at bytes)
bytes_behind at bytes are = λ i. rw (get_or-drop at bytes i 0) (are (at + i))

-- a sync entry is seen as one
pub seen_sync : (s : Seen) → entry_of s ≡ SyncEntry → s ≡ seen.Sync
seen_sync seen.Nothing is = cc
seen_sync seen.Sync is = refl
seen_sync (seen.Record key value) is = cc
seen_sync (seen.Damaged why) is = cc
