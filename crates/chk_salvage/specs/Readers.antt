-- What a reader has read and what it will give.
use Rattle.std.specs.Prelude.{◌≡◌, ℕ, ◌<◌, ◌≤◌, List, [], ◌∷◌, length, drop}
use Rattle.chk_seqfile.specs.Entries.{Placed, records_at}
use Rattle.chk_salvage.specs.Front.{IsReadSo, DamageAt, Item, Kept, salvaged_at}
use Rattle.chk_salvage.specs.Views.{placed_of}
use Rattle.chk_salvage.specs.declared.reader.Reader.{Reader}
use Rattle.chk_salvage.specs.declared.reader.Next.{Next}
use Rattle.chk_salvage.specs.declared.reader.Next.TheVariants.{Entry, End, Damaged}

-- the bytes that a reader reads
abbrev pub bytes_in : Reader → List ℕ
bytes_in r = r.bytes.now

-- the place that it has come to
abbrev pub place_in : Reader → ℕ
place_in r = r.place

-- the marker of its file
abbrev pub marker_in : Reader → List ℕ
marker_in r = r.marker

-- all that it has passed is a SequenceFile: so it is until it skips damage
abbrev pub HasReadSo : Reader → Type 0
HasReadSo r = IsReadSo r.marker r.bytes.now r.place

-- the records that it will give before it stops
abbrev pub records_left : Reader → List Placed
records_left r = records_at r.marker r.place (drop r.place r.bytes.now)

-- the records that it will give and the ranges that it will skip, if each damage is skipped
abbrev pub items_left : Reader → List Item
items_left r = salvaged_at r.marker r.place (drop r.place r.bytes.now)

-- the record that an answer gives, if it gives one
abbrev pub record_given : Next → List Placed
record_given (Entry e) = placed_of e ∷ []
record_given End = []
record_given (Damaged at why) = []

-- the same as what can be read
abbrev pub item_given : Next → List Item
item_given (Entry e) = Kept (placed_of e) ∷ []
item_given End = []
item_given (Damaged at why) = []

-- the reader stands where the answer says: behind the record, at the end of the bytes, or at the damage
abbrev pub StandsAt : Next → Reader → Type 0
StandsAt (Entry e) r = (e.at < e.end) × (e.end ≡ r.place)
StandsAt End r = r.place ≡ length r.bytes.now
StandsAt (Damaged at why) r = (at ≡ r.place) × DamageAt r.marker r.bytes.now at why

-- the answer speaks of a place from this one on
abbrev pub IsFrom : ℕ → Next → Type 0
IsFrom place (Entry e) = place ≤ e.at
IsFrom place End = Unit {0}
IsFrom place (Damaged at why) = place ≤ at

-- the answer is no record
abbrev pub IsStop : Next → Type 0
IsStop (Entry e) = ⊥
IsStop End = Unit {0}
IsStop (Damaged at why) = Unit {0}

-- the reader reads the same bytes
pub record IsSameFile (old new : Reader) : Type 0 where
  pub bytes : new.bytes.now ≡ old.bytes.now
  pub marker : new.marker ≡ old.marker
