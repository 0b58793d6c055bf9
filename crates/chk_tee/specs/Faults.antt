-- What is wrong with bytes that are no message of a tee: their first wrong field, in reading order.
use Rattle.std.specs.Prelude.{ℕ, zero, suc, ◌+◌, ◌≤◌, Bool, ◌||◌, not, ◌==◌, nat_lt, List, [], ◌∷◌, length, take, bytes_eq, is_none, if◌then◌else◌, Option, Some, None}
use Rattle.std.specs.Option.{option_map}
use Rattle.chk_bytes.specs.Numbers.{spelled_at}
use Rattle.chk_bytes.specs.Stems.{is_count, read_stem}
use Rattle.chk_chunk.specs.Keys.{Key, chunk_limit, text_at, behind_text}
use Rattle.chk_chunk.specs.Posts.{part_at, behind_part, guessed_chunk}
use Rattle.chk_chunk.specs.Faults.{key_fault}
use Rattle.chk_chunk.specs.declared.faults.ChunkFault.{ChunkFault}
use Rattle.chk_chunk.specs.declared.faults.ChunkFault.TheVariants.{Short as ShortPart, Version, NotUtf8, Empty, TooLong as LongPart, BeforeStart, TooMany, Trailing as TrailingPart, TooHigh, NotWord, StartHigh}
use Rattle.chk_tee.specs.Messages.{tee_limit, most_teed, tee_mark, chunk_at, behind_teed}
use Rattle.chk_tee.specs.declared.faults.TeeFault.{TeeFault}
use Rattle.chk_tee.specs.declared.faults.TeeFault.TheVariants.{NotTee, Short, BadCount, BadStem, BadOffset, BadChunk, Trailing, TooLong}

-- the first fault of a list of fields
unfoldable pub first_wrong : List (Option TeeFault) → Option TeeFault
first_wrong [] = None
first_wrong (None ∷ fields) = first_wrong fields
first_wrong (Some fault ∷ fields) = Some fault

-- this fault, where this test holds
unfoldable pub wrong_if : Bool → TeeFault → Option TeeFault
wrong_if wrong fault = if wrong then Some fault else None

-- fewer bytes stand there than the field has
abbrev pub short_wrong : ℕ → ℕ → List ℕ → Option TeeFault
short_wrong at size bytes = wrong_if (nat_lt (length bytes) (at + size)) (Short at)

-- more bytes stand there, where the last field has ended
abbrev pub trailing_wrong : ℕ → List ℕ → Option TeeFault
trailing_wrong at bytes = wrong_if (nat_lt at (length bytes)) (Trailing at)

-- the first five bytes, as far as they are there, are the mark's
unfoldable pub mark_wrong : List ℕ → Option TeeFault
mark_wrong bytes =
    if bytes_eq (take 5 bytes) (take (length bytes) tee_mark) then short_wrong 0 5 bytes else Some NotTee

-- the most bytes of a stem
abbrev pub stem_limit : ℕ
stem_limit = 104

-- two fields from this place on: a length, and a stem of that length
unfoldable pub stem_wrong : ℕ → List ℕ → Option TeeFault
stem_wrong at bytes =
    let size = spelled_at at 2 bytes in
    first_wrong (
    short_wrong at 2 bytes
    ∷ wrong_if (size == 0 || nat_lt stem_limit size) (BadStem at)
    ∷ short_wrong (at + 2) size bytes
    ∷ wrong_if (is_none (read_stem (text_at at bytes))) (BadStem (at + 2))
    ∷ [])

-- an offset
unfoldable pub offset_wrong : ℕ → List ℕ → Option TeeFault
offset_wrong at bytes =
    first_wrong (
    short_wrong at 8 bytes
    ∷ wrong_if (not (is_count (spelled_at at 8 bytes))) (BadOffset at)
    ∷ [])

-- the fault of a part, its place counted from the whole's first byte, where the part begins at this place
abbrev pub from_whole : ℕ → ChunkFault → ChunkFault
from_whole from (ShortPart at) = ShortPart (from + at)
from_whole from (Version found) = Version found
from_whole from (NotUtf8 at) = NotUtf8 (from + at)
from_whole from (Empty at) = Empty (from + at)
from_whole from (LongPart most found) = LongPart most found
from_whole from (BeforeStart seq len) = BeforeStart seq len
from_whole from (TooMany count) = TooMany count
from_whole from (TrailingPart at) = TrailingPart (from + at)
from_whole from (TooHigh seq) = TooHigh seq
from_whole from (NotWord at) = NotWord (from + at)
from_whole from (StartHigh start seq) = StartHigh start seq

-- the place of a fault of a key is at most this, since no key has more than 4 texts
abbrev pub nearest : ℕ
nearest = 400000

-- the fault's place is that near
abbrev pub IsNear : ChunkFault → Type 0
IsNear (ShortPart at) = at ≤ nearest
IsNear (NotUtf8 at) = at ≤ nearest
IsNear (Empty at) = at ≤ nearest
IsNear (TrailingPart at) = at ≤ nearest
IsNear (NotWord at) = at ≤ nearest
IsNear fault = Unit {0}

-- the same, as what is wrong with a message
abbrev pub bad_part : ℕ → Option ChunkFault → Option TeeFault
bad_part from fault = option_map (λ f. BadChunk (from_whole from f)) fault

-- two fields from this place on: a length, and a key that ends where its length says
unfoldable pub key_wrong : ℕ → List ℕ → Option TeeFault
key_wrong at bytes =
    first_wrong (
    short_wrong at 4 bytes
    ∷ short_wrong (at + 4) (spelled_at at 4 bytes) bytes
    ∷ bad_part (at + 4) (key_fault 0 (part_at at bytes))
    ∷ [])

-- two fields from this place on: a length, and the data of a chunk with this key
unfoldable pub value_wrong : Key → ℕ → List ℕ → Option TeeFault
value_wrong key at bytes =
    let size = spelled_at at 4 bytes in
    first_wrong (
    short_wrong at 4 bytes
    ∷ wrong_if (size == 0) (BadChunk (Empty at))
    ∷ wrong_if (nat_lt chunk_limit size) (BadChunk (LongPart chunk_limit size))
    ∷ wrong_if (nat_lt key.seq (key.start + size)) (BadChunk (BeforeStart key.seq size))
    ∷ short_wrong (at + 4) size bytes
    ∷ [])

-- the fields of one chunk, behind its stem and its offset
unfoldable pub teed_wrong : ℕ → List ℕ → Option TeeFault
teed_wrong at bytes =
    first_wrong (
    stem_wrong at bytes
    ∷ offset_wrong (behind_text at bytes) bytes
    ∷ key_wrong (chunk_at at bytes) bytes
    ∷ value_wrong (guessed_chunk (chunk_at at bytes) bytes).key (behind_part (chunk_at at bytes) bytes) bytes
    ∷ [])

-- the fields of so many chunks, behind which nothing follows
abbrev pub teeds_wrong : ℕ → ℕ → List ℕ → Option TeeFault
teeds_wrong zero at bytes = trailing_wrong at bytes
teeds_wrong (suc count) at bytes =
    first_wrong (teed_wrong at bytes ∷ teeds_wrong count (behind_teed at bytes) bytes ∷ [])

-- the first wrong field of a message; that it is too long goes before all
unfoldable pub tee_fault : List ℕ → Option TeeFault
tee_fault bytes =
    let count = spelled_at 5 4 bytes in
    first_wrong (
    wrong_if (nat_lt tee_limit (length bytes)) (TooLong tee_limit (length bytes))
    ∷ mark_wrong bytes
    ∷ short_wrong 5 4 bytes
    ∷ wrong_if (count == 0 || nat_lt most_teed count) (BadCount count)
    ∷ teeds_wrong count 9 bytes
    ∷ [])
