-- The laws of this crate.
use Rattle.std.specs.Prelude.{◌≡◌, ◌↔◌, ◌<◌, ◌≤◌, ◌+◌, ◌^◌, ℕ, List, ◌++◌, length, drop, decimal, slice_index, Some, None, Ok, IsTrue}
use Rattle.chk_bytes.specs.Numbers.{spelled, limit, number_in_digits, plain_number}
use Rattle.chk_bytes.specs.Words.{is_word}
use Rattle.chk_bytes.specs.WordFaults.{word_fault_of}
use Rattle.chk_bytes.specs.Vints.{vint_limit, vint_at, vint_spelling, VintSpells}
use Rattle.chk_bytes.specs.Stems.{Stem, is_stem, stem_text, read_stem, same_stem}

-- nothing is wrong with a text exactly where it is a word
abbrev pub FaultlessIsWord : Type 0
FaultlessIsWord = (text : List ℕ) → (word_fault_of text ≡ None) ↔ IsTrue (is_word text)

-- all are bytes
abbrev pub AreBytes : List ℕ → Type 0
AreBytes bytes = (i : ℕ) → slice_index bytes i < 256

-- a number that fits this many bytes is written as so many, which spell it
abbrev pub ReadsBack : (ℕ → List ℕ) → ℕ → Type 0
ReadsBack written size =
    (n : ℕ) → n < 256 ^ size → (spelled (written n) ≡ n) × (length (written n) ≡ size)

-- so many bytes are those of the number that they spell
abbrev pub SpellsBack : (ℕ → List ℕ) → ℕ → Type 0
SpellsBack written size =
    (bytes : List ℕ) → length bytes ≡ size → AreBytes bytes → written (spelled bytes) ≡ bytes

-- the shortest spelling is read, wherever it stands
abbrev pub VintReadsBack : Type 0
VintReadsBack = (n : ℕ) (front back : List ℕ) → n < vint_limit
    → vint_at (front ++ (vint_spelling n ++ back)) (length front)
    ≡ Ok (n, length front + length (vint_spelling n))

-- no spelling that is read is shorter
abbrev pub VintIsShortest : Type 0
VintIsShortest = (bytes : List ℕ) (at n next : ℕ) → AreBytes bytes
    → vint_at bytes at ≡ Ok (n, next) → at + length (vint_spelling n) ≤ next

-- a spelling of the number stands at this place and ends at the next
abbrev pub IsSpelledAt : List ℕ → ℕ → ℕ → ℕ → Type 0
IsSpelledAt bytes at n next = (spelling rest : List ℕ) × VintSpells n spelling
    × (drop at bytes ≡ spelling ++ rest) × (next ≡ at + length spelling)

-- just the spellings of numbers below 2^31 are read
abbrev pub VintFollowsTable : Type 0
VintFollowsTable = (bytes : List ℕ) (at n next : ℕ)
    → (vint_at bytes at ≡ Ok (n, next)) ↔ ((n < vint_limit) × IsSpelledAt bytes at n next)

-- decimal digits are read back, without leading zeros
abbrev pub DecimalReadsBack : Type 0
DecimalReadsBack = (n : ℕ) → n < limit → plain_number (decimal n) ≡ Some n

-- and where leading zeros are allowed
abbrev pub DigitsReadBack : Type 0
DigitsReadBack = (n : ℕ) → n < limit → number_in_digits (decimal n) ≡ Some n

-- what is read without leading zeros is written so
abbrev pub PlainIsDecimal : Type 0
PlainIsDecimal =
    (text : List ℕ) (n : ℕ) → plain_number text ≡ Some n → (decimal n ≡ text) × (n < limit)

-- a stem's text is read back
abbrev pub StemReadsBack : Type 0
StemReadsBack = (x : Stem) → IsTrue (is_stem x) → read_stem (stem_text x) ≡ Some x

-- what is read is a stem and is spelled so
abbrev pub StemIsSpelled : Type 0
StemIsSpelled = (text : List ℕ) (x : Stem) → read_stem text ≡ Some x
    → (stem_text x ≡ text) × IsTrue (is_stem x)

-- stems are the same exactly where they are one
abbrev pub SameStemIsOne : Type 0
SameStemIsOne = (x y : Stem) → IsTrue (same_stem x y) ↔ (x ≡ y)
