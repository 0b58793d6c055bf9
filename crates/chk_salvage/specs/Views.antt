-- What is read, seen without where it lies in memory.
use Rattle.std.specs.Prelude.{◌≡◌, ℕ, ◌<◌, ◌≤◌}
use Rattle.chk_seqfile.specs.Entries.{Entry, NoEntry, SyncEntry, RecordEntry, Damaged, Placed, size_of_record}
use Rattle.chk_salvage.specs.declared.entry.EntryRef.{EntryRef}
use Rattle.chk_salvage.specs.declared.entry.Seen.{Seen}
use Rattle.chk_salvage.specs.declared.entry.Seen.TheVariants as seen

-- a record with its place
abbrev pub placed_of : EntryRef → Placed
placed_of e = record { at = e.at; end = e.end; key = e.key.now; value = e.value.now }

-- what stands first in some bytes
abbrev pub entry_of : Seen → Entry
entry_of seen.Nothing = NoEntry
entry_of seen.Sync = SyncEntry
entry_of (seen.Record key value) = RecordEntry key.now value.now
entry_of (seen.Damaged why) = Damaged why

-- it has its place among so many bytes
abbrev pub IsWithin : Seen → ℕ → Type 0
IsWithin seen.Nothing n = n ≡ 0
IsWithin seen.Sync n = 20 ≤ n
IsWithin (seen.Record key value) n = size_of_record key.now value.now ≤ n
IsWithin (seen.Damaged why) n = 0 < n
