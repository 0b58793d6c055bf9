-- Data of records that were read ahead of their turn.
use Rattle.std.specs.Prelude.{◌≡◌, ◌≤◌, ◌+◌, ◌<◌, ℕ, List, All, length, take, drop, Result, Ok, Err, if◌then◌else◌}
use Rattle.chk_site.specs.History.{History}
use Rattle.chk_world.specs.Sight.{Sight}
use Rattle.chk_record_index.specs.Heads.{Head}
use Rattle.chk_record_index.specs.Pieces.{bytes_in}
use Rattle.chk_record_index.specs.declared.fault.JobFault.{JobFault}
use Rattle.chk_record_index.specs.declared.fault.JobFault.TheVariants.{Damaged}
use Rattle.chk_archive_plan.specs.Passes.{head_in}
use Rattle.chk_record_reader.specs.ReadBack.{value_at, value_held}
use Rattle.chk_record_reader.specs.Segments.{HasFiles}
use Rattle.chk_archive_parts.specs.Gathering.{held}
use Rattle.chk_archive_parts.specs.Fetching.{head_file, AreWindows}
use Rattle.chk_archive_parts.specs.declared.shelf.Shelf.{Shelf}
use Rattle.chk_archive_parts.specs.declared.shelf.Slot.{Slot}

-- the data of the record of the head at a place
abbrev pub value_of : Sight → List (List ℕ) → List Head → ℕ → List ℕ
value_of v files heads i = value_at (head_in heads i).at (bytes_in (held v (head_file files heads i)))

-- where the slot has bytes, these are the data of its record
pub record IsTrueSlot (v : Sight) (files : List (List ℕ)) (heads : List Head) (bytes : List ℕ) (s : Slot) : Type 0 where
  pub within : s.start + s.size ≤ length bytes
  pub is : 0 < s.size → take s.size (drop s.start bytes) ≡ value_of v files heads s.index

-- what is held of these files is true
pub record AreKept (v : Sight) (files : List (List ℕ)) (heads : List Head) (s : Shelf) : Type 0 where
  pub windows : AreWindows v files s.reader
  pub slots : All (IsTrueSlot v files heads s.bytes) s.slots.items

-- the value that is shown
abbrev pub value_kept : Shelf → List ℕ
value_kept s = if s.is_held then take s.size (drop s.start s.bytes) else value_held s.reader

-- the files are those that the job knows, and what is held of them is true
abbrev pub CanShelve : Sight → List (List ℕ) → List Head → Shelf → History → Type 0
CanShelve v files heads s history = HasFiles files (held v) history × AreKept v files heads s

-- at Ok it is so still; no file is damaged
abbrev pub ShelvedSo : Sight → List (List ℕ) → List Head → Shelf → Result (Unit {0}) JobFault → History → Type 0
ShelvedSo v files heads s (Ok value) history = CanShelve v files heads s history
ShelvedSo v files heads s (Err (Damaged name at)) history = ⊥
ShelvedSo v files heads s (Err fault) history = Unit {0}

-- and this value is shown
abbrev pub ShownSo : Sight → List (List ℕ) → List Head → List ℕ → Shelf → Result (Unit {0}) JobFault → History → Type 0
ShownSo v files heads shown s (Ok value) history = CanShelve v files heads s history × (value_kept s ≡ shown)
ShownSo v files heads shown s (Err (Damaged name at)) history = ⊥
ShownSo v files heads shown s (Err fault) history = Unit {0}
