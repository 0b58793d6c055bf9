-- What holds of the longest sound front, of what is salvaged, and of files that are fed.
use Rattle.std.specs.Prelude.{◌≡◌, ◌⊎◌, ℕ, ◌<◌, ◌≤◌, List, [], ◌∷◌, ◌++◌, length, take, drop, map, nat_eq, true}
use Rattle.std.specs.List.{starts_with}
use Rattle.chk_bytes.specs.Laws.{AreBytes}
use Rattle.chk_seqfile.specs.Entries.{sync_entry, records_of, ending_by}
use Rattle.chk_salvage.specs.Front.{IsFront, IsDamaged, Kept, Skipped, salvaged_at, salvage_of}
use Rattle.chk_salvage.specs.Feeding.{fed_place, IsFed}
use Rattle.chk_salvage.specs.Runs.{Act, fed_by, given_by, Runs}
use Rattle.chk_salvage.specs.declared.pieces.Pieces.{Pieces}

-- there is one longest sound front at most
abbrev pub OneFront : Type 0
OneFront = (bytes : List ℕ) (m n : ℕ) → IsFront bytes m → IsFront bytes n → m ≡ n

-- the records of bytes are those of their longest sound front
abbrev pub FrontHasRecords : Type 0
FrontHasRecords = (bytes : List ℕ) (n : ℕ) → AreBytes bytes → IsFront bytes n → records_of bytes ≡ records_of (take n bytes)

-- what is salvaged are these records, and then what is salvaged from there on
abbrev pub SalvageKeepsFront : Type 0
SalvageKeepsFront = (bytes : List ℕ) (n : ℕ) → AreBytes bytes → (f : IsFront bytes n)
    → salvage_of bytes ≡ map Kept (records_of bytes) ++ salvaged_at f.sound.marker n (drop n bytes)

-- a whole sync entry with the marker stands there
abbrev pub SyncAt : List ℕ → List ℕ → ℕ → Type 0
SyncAt marker bytes at = starts_with nat_eq (drop at bytes) (sync_entry marker) ≡ true

-- the least place above another one at which a whole sync entry stands, or the end where none does
pub record IsSkipEnd (marker bytes : List ℕ) (at to : ℕ) : Type 0 where
  pub past : at < to
  pub within : to ≤ length bytes
  pub stands : (to ≡ length bytes) ⊎ SyncAt marker bytes to
  pub least : (j : ℕ) → at < j → j < to → SyncAt marker bytes j → ⊥

-- damage is skipped up to there, and then what is salvaged from there on
abbrev pub SalvageSkipsDamage : Type 0
SalvageSkipsDamage = (marker bytes : List ℕ) (at : ℕ) → at < length bytes → IsDamaged marker bytes at
    → (to : ℕ) × IsSkipEnd marker bytes at to
    × (salvaged_at marker at (drop at bytes) ≡ Skipped at to ∷ salvaged_at marker to (drop to bytes))

-- however a file is cut into pieces, what was given are the records of its bytes that end by the place which the reader
-- has come to
abbrev pub RunGivesRecords : Type 0
RunGivesRecords = (p q : Pieces) (acts : List Act) → IsFed p [] → Runs p acts q
    → IsFed q (fed_by acts) × (given_by acts ≡ ending_by (fed_place q) (records_of (fed_by acts)))
