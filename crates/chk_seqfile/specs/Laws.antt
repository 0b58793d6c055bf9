-- What holds of every file that is written, and of every cut one.
use Rattle.std.specs.Prelude.{◌≡◌, ℕ, ◌+◌, ◌<◌, ◌≤◌, ◌^◌, List, [], ◌∷◌, ◌++◌, length, take, Err}
use Rattle.chk_seqfile.specs.declared.headers.HeaderFault.TheVariants.{Short}
use Rattle.chk_seqfile.specs.Headers.{header, read_header}
use Rattle.chk_seqfile.specs.Entries.{IsSequenceFile, records_of, placed, piece_at, record_place, ending_by}

-- a header alone is a file with its marker, and has no records
abbrev pub HeaderIsFile : Type 0
HeaderIsFile = (marker : List ℕ) → length marker ≡ 16
    → (f : IsSequenceFile (header marker)) × (f.marker ≡ marker) × (length f.head ≡ 96) × (records_of (header marker) ≡ [])

-- a file with a piece behind it is a file with the same header, and has one record more
abbrev pub PieceAddsRecord : Type 0
PieceAddsRecord = (bytes : List ℕ) (f : IsSequenceFile bytes) (last_sync : ℕ) (key value : List ℕ) → 8 + length key + length value < 2 ^ 31
    → (g : IsSequenceFile (bytes ++ piece_at f.marker (length bytes) last_sync key value)) × (g.marker ≡ f.marker) × (g.head ≡ f.head)
    × (records_of (bytes ++ piece_at f.marker (length bytes) last_sync key value)
    ≡ records_of bytes ++ placed (record_place (length bytes) last_sync) key value ∷ [])

-- a file that is cut behind its header gives just the records that end at or before the cut
abbrev pub CutGivesWholeRecords : Type 0
CutGivesWholeRecords = (bytes : List ℕ) (f : IsSequenceFile bytes) (n : ℕ) → length f.head ≤ n
    → records_of (take n bytes) ≡ ending_by n (records_of bytes)

-- a file that is cut in its header is Short
abbrev pub CutHeaderIsShort : Type 0
CutHeaderIsShort = (bytes : List ℕ) (f : IsSequenceFile bytes) (n : ℕ) → n < length f.head → read_header (take n bytes) ≡ Err Short
