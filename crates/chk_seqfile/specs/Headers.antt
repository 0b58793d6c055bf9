-- The header of a SequenceFile: as it is written, and as it is read.
use Rattle.std.specs.Prelude.{ℕ, zero, suc, ◌+◌, ◌-◌, ◌*◌, ◌^◌, ◌&&◌, ◌||◌, ◌==◌, nat_lt, nat_le, List, [], ◌∷◌, ◌++◌, length, take, drop, replicate, codes, nat_eq, slice_index, if◌then◌else◌, Result, Ok, Err}
use Rattle.std.specs.List.{starts_with}
use Rattle.chk_bytes.specs.Numbers.{spelled}
use Rattle.md5.specs.Md5.{md5}
use Rattle.chk_seqfile.specs.declared.headers.HeaderRef.{HeaderRef}
use Rattle.chk_seqfile.specs.declared.headers.HeaderFault.{HeaderFault}
use Rattle.chk_seqfile.specs.declared.headers.HeaderFault.TheVariants.{NotSeq, Version, Compressed, OtherClass, Short, BadMeta}

-- the name of the class of keys and of values
unfoldable pub class_text : List ℕ
class_text = codes "org.apache.hadoop.io.BytesWritable"

-- the 80 bytes that are written before the marker
unfoldable pub written_front : List ℕ
unfolding class_text
written_front = 83 ∷ 69 ∷ 81 ∷ 6 ∷ (34 ∷ class_text ++ (34 ∷ class_text ++ (0 ∷ 0 ∷ 0 ∷ 0 ∷ 0 ∷ 0 ∷ [])))

-- a header as it is written
abbrev pub header : List ℕ → List ℕ
header marker = written_front ++ marker

-- the marker of the file that is written under a stem
unfoldable pub marker_of : List ℕ → List ℕ
marker_of stem = md5 stem

-- how a header is read: each field gives the bytes behind it, and the first field that is wrong decides
infixl 10 ◌>>=◌
abbrev pub ◌>>=◌ : {A B : Type 0} → Result A HeaderFault → (A → Result B HeaderFault) → Result B HeaderFault
(Ok x) >>= f = f x
(Err e) >>= f = Err e

-- these bytes: others are the fault, and a front of them is Short
abbrev pub expect : List ℕ → HeaderFault → List ℕ → Result (List ℕ) HeaderFault
expect want fault bytes =
    if starts_with nat_eq bytes want then Ok (drop (length want) bytes)
    else if starts_with nat_eq want bytes then Err Short else Err fault

-- the version, 6
abbrev pub read_version : List ℕ → Result (List ℕ) HeaderFault
read_version [] = Err Short
read_version (b ∷ bytes) = if b == 6 then Ok bytes else Err (Version b)

-- the number 34 in the spelling of variable length that begins with this byte, else in the shortest
abbrev pub spelled_34 : ℕ → List ℕ
spelled_34 b = if nat_le 136 b && nat_lt b 144 then b ∷ replicate (143 - b) 0 ++ 34 ∷ [] else 34 ∷ []

-- a class: the length 34 in some spelling, and then the name
unfoldable pub read_class : List ℕ → Result (List ℕ) HeaderFault
unfolding class_text
read_class bytes = expect (spelled_34 (slice_index bytes 0) ++ class_text) OtherClass bytes

-- a number of so many bytes, below 2^31, at this place: the number and the bytes behind it. Where bytes of it are
-- missing and it may still be below 2^31, it is Short
abbrev pub read_digits : ℕ → ℕ → List ℕ → Result (ℕ × List ℕ) HeaderFault
read_digits place count bytes =
    if nat_lt (spelled (take count bytes) * 256 ^ (count - length bytes)) (2 ^ 31)
    then (if nat_le count (length bytes) then Ok (spelled (take count bytes), drop count bytes) else Err Short)
    else Err (BadMeta place)

-- a number of variable length at this place: a first byte below 128 is the number, and one of 136 to 143 says how
-- many bytes of it follow
abbrev pub read_length : ℕ → List ℕ → Result (ℕ × List ℕ) HeaderFault
read_length place [] = Err Short
read_length place (b ∷ bytes) =
    if nat_lt b 128 then Ok (b, bytes)
    else if nat_lt b 136 || nat_le 144 b then Err (BadMeta place) else read_digits place (144 - b) bytes

-- so many bytes, whatever they are
abbrev pub skip : ℕ → List ℕ → Result (List ℕ) HeaderFault
skip count bytes = if nat_le count (length bytes) then Ok (drop count bytes) else Err Short

-- a text of the metadata, in a header with so many bytes from its begin to the end of the input
abbrev pub read_text : ℕ → List ℕ → Result (List ℕ) HeaderFault
read_text total bytes = do
  text ← read_length (total - length bytes) bytes
  skip text.0 text.1

-- so many texts
abbrev pub read_texts : ℕ → ℕ → List ℕ → Result (List ℕ) HeaderFault
read_texts total zero bytes = Ok bytes
read_texts total (suc texts) bytes = do
  rest ← read_text total bytes
  read_texts total texts rest

-- the metadata: a count of 4 bytes, and so many pairs of texts
abbrev pub read_metadata : ℕ → List ℕ → Result (List ℕ) HeaderFault
read_metadata total bytes = do
  count ← read_digits (total - length bytes) 4 bytes
  read_texts total (2 * count.0) count.1

-- the fields before the metadata
unfoldable pub read_front : List ℕ → Result (List ℕ) HeaderFault
read_front bytes = do
  behind_seq ← expect (codes "SEQ") NotSeq bytes
  behind_version ← read_version behind_seq
  behind_key ← read_class behind_version
  behind_value ← read_class behind_key
  expect (0 ∷ 0 ∷ []) Compressed behind_value

-- all fields before the marker, in a header with so many bytes from its begin to the end of the input
unfoldable pub read_fields : ℕ → List ℕ → Result (List ℕ) HeaderFault
read_fields total bytes = do
  behind_front ← read_front bytes
  read_metadata total behind_front

-- the marker, and the place where the header ends
abbrev pub read_marker : ℕ → List ℕ → Result HeaderRef HeaderFault
read_marker total bytes =
    if nat_le 16 (length bytes) then Ok (record { marker = take 16 bytes; end = total - length bytes + 16 }) else Err Short

-- what a header is read as
unfoldable pub read_header : List ℕ → Result HeaderRef HeaderFault
read_header bytes = do
  behind_fields ← read_fields (length bytes) bytes
  read_marker (length bytes) behind_fields
