-- Which bytes are a header of a SequenceFile, apart from how they are read.
use Rattle.std.specs.Prelude.{◌≡◌, ℕ, zero, suc, ◌-◌, ◌*◌, ◌<◌, ◌≤◌, ◌^◌, List, [], ◌∷◌, ◌++◌, length, codes}
use Rattle.chk_bytes.specs.Numbers.{spelled}
use Rattle.chk_seqfile.specs.Headers.{class_text}

-- a number below 2^31 in so many bytes, the high one first
pub record IsDigits (count n : ℕ) (bytes : List ℕ) : Type 0 where
  pub size : length bytes ≡ count
  pub is : spelled bytes ≡ n
  pub small : n < 2 ^ 31

-- a number below 2^31 in one of its spellings of variable length: alone in one byte, or in 1 to 8 bytes behind a
-- byte that says how many they are
pub data IsLength : ℕ → List ℕ → Type 0 where
  Alone : (n : ℕ) → n < 128 → IsLength n (n ∷ [])
  Behind : (count n : ℕ) (digits : List ℕ) → 0 < count → count ≤ 8 → IsDigits count n digits → IsLength n ((144 - count) ∷ digits)

-- a class: its name behind its length
abbrev pub IsClass : List ℕ → Type 0
IsClass bytes = (size : List ℕ) × IsLength 34 size × (bytes ≡ size ++ class_text)

-- a text: its bytes behind their length
abbrev pub IsText : List ℕ → Type 0
IsText bytes = (n : ℕ) × (size : List ℕ) × (text : List ℕ) × IsLength n size × (length text ≡ n) × (bytes ≡ size ++ text)

-- so many texts, one after the other
abbrev pub AreTexts : ℕ → List ℕ → Type 0
AreTexts zero bytes = bytes ≡ []
AreTexts (suc n) bytes = (first : List ℕ) × (rest : List ℕ) × IsText first × AreTexts n rest × (bytes ≡ first ++ rest)

-- a count in 4 bytes, and so many pairs of texts
abbrev pub IsMetadata : List ℕ → Type 0
IsMetadata bytes = (n : ℕ) × (count : List ℕ) × (texts : List ℕ) × IsDigits 4 n count × AreTexts (2 * n) texts × (bytes ≡ count ++ texts)

-- a header with this marker: `SEQ`, version 6, the two classes, two zeros, the metadata and the marker
pub record IsHeader (marker bytes : List ℕ) : Type 0 where
  pub key_class : List ℕ
  pub value_class : List ℕ
  pub metadata : List ℕ
  pub key_form : IsClass key_class
  pub value_form : IsClass value_class
  pub metadata_form : IsMetadata metadata
  pub marker_size : length marker ≡ 16
  pub is : bytes ≡ codes "SEQ" ++ (6 ∷ (key_class ++ (value_class ++ (0 ∷ 0 ∷ (metadata ++ marker)))))

-- the bytes are a header's, but not all of it
abbrev pub IsHeaderFront : List ℕ → Type 0
IsHeaderFront bytes = (more : List ℕ) × (marker : List ℕ) × (0 < length more) × IsHeader marker (bytes ++ more)
