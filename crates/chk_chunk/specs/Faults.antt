-- What is wrong with bytes that are no key or no post: their first wrong field, in reading order.
use Rattle.std.specs.Prelude.{ℕ, zero, suc, ◌+◌, Bool, ◌||◌, not, ◌==◌, nat_lt, nat_le, List, [], ◌∷◌, length, position, if◌then◌else◌, Option, Some, None}
use Rattle.std.specs.Option.{option_map}
use Rattle.std.specs.Str.{is_utf8}
use Rattle.std.specs.Str.Lossy.{utf8_valid_len}
use Rattle.chk_bytes.specs.Numbers.{limit, spelled_at}
use Rattle.chk_bytes.specs.Words.{is_word_byte}
use Rattle.chk_chunk.specs.Keys.{Key, start_limit, chunk_limit, text_at, behind_text, behind_stream, is_version_1}
use Rattle.chk_chunk.specs.Posts.{post_limit, most_chunks, behind_part, up_to_part, guessed_chunk, behind_chunk}
use Rattle.chk_chunk.specs.declared.faults.ChunkFault.{ChunkFault}
use Rattle.chk_chunk.specs.declared.faults.ChunkFault.TheVariants.{Short, Version, NotUtf8, Empty, TooLong, BeforeStart, TooMany, Trailing, TooHigh, NotWord, StartHigh}

-- the first fault of a list of fields
unfoldable pub first_fault : List (Option ChunkFault) → Option ChunkFault
first_fault [] = None
first_fault (None ∷ fields) = first_fault fields
first_fault (Some fault ∷ fields) = Some fault

-- this fault, where this test holds
unfoldable pub fault_if : Bool → ChunkFault → Option ChunkFault
fault_if wrong fault = if wrong then Some fault else None

-- fewer bytes stand there than the field has
abbrev pub short_fault : ℕ → ℕ → List ℕ → Option ChunkFault
short_fault at size bytes = fault_if (nat_lt (length bytes) (at + size)) (Short at)

-- more bytes stand there, where the last field has ended
abbrev pub trailing_fault : ℕ → List ℕ → Option ChunkFault
trailing_fault at bytes = fault_if (nat_lt at (length bytes)) (Trailing at)

-- the bytes of a text that begins at this place are no UTF-8, or one of them may not stand in a word
unfoldable pub letters_fault : ℕ → List ℕ → Option ChunkFault
letters_fault at text =
    if is_utf8 text then option_map (λ i. NotWord (at + i)) (position (λ b. not (is_word_byte b)) text)
    else Some (NotUtf8 (at + utf8_valid_len text))

-- the most bytes of a word
abbrev pub word_limit : ℕ
word_limit = 4096

-- two fields from this place on: a length, and a text of that length
unfoldable pub text_fault : ℕ → List ℕ → Option ChunkFault
text_fault at bytes =
    let size = spelled_at at 2 bytes in
    first_fault (
    short_fault at 2 bytes
    ∷ fault_if (size == 0) (Empty at)
    ∷ fault_if (nat_lt word_limit size) (TooLong word_limit size)
    ∷ short_fault (at + 2) size bytes
    ∷ letters_fault (at + 2) (text_at at bytes)
    ∷ [])

-- a stream's three texts
unfoldable pub stream_fault : ℕ → List ℕ → Option ChunkFault
stream_fault at bytes =
    let kind_at = behind_text at bytes in
    let name_at = behind_text kind_at bytes in
    first_fault (text_fault at bytes ∷ text_fault kind_at bytes ∷ text_fault name_at bytes ∷ [])

-- the version and the sequence id
unfoldable pub head_fault : ℕ → List ℕ → Option ChunkFault
head_fault at bytes =
    let version = spelled_at at 1 bytes in
    let seq = spelled_at (at + 1) 8 bytes in
    first_fault (
    short_fault at 1 bytes
    ∷ fault_if (not (version == 1 || version == 2)) (Version version)
    ∷ short_fault (at + 1) 8 bytes
    ∷ fault_if (nat_le limit seq) (TooHigh seq)
    ∷ [])

-- the rest of a key of version 1, whose chunk has at least one byte
unfoldable pub rest_1_fault : ℕ → List ℕ → Option ChunkFault
rest_1_fault at bytes =
    first_fault (
    fault_if (spelled_at (at + 1) 8 bytes == 0) (BeforeStart 0 1)
    ∷ stream_fault (at + 9) bytes
    ∷ trailing_fault (behind_stream (at + 9) bytes) bytes
    ∷ [])

-- the rest of a key of version 2
unfoldable pub rest_2_fault : ℕ → List ℕ → Option ChunkFault
rest_2_fault at bytes =
    let seq = spelled_at (at + 1) 8 bytes in
    let start = spelled_at (at + 9) 8 bytes in
    let cluster_at = behind_stream (at + 17) bytes in
    first_fault (
    short_fault (at + 9) 8 bytes
    ∷ fault_if (nat_le start_limit start || nat_le seq start) (StartHigh start seq)
    ∷ stream_fault (at + 17) bytes
    ∷ text_fault cluster_at bytes
    ∷ trailing_fault (behind_text cluster_at bytes) bytes
    ∷ [])

-- the first wrong field of a key that begins at this place and ends where the bytes do
unfoldable pub key_fault : ℕ → List ℕ → Option ChunkFault
key_fault at bytes =
    first_fault (
    head_fault at bytes
    ∷ (if is_version_1 at bytes then rest_1_fault at bytes else rest_2_fault at bytes)
    ∷ [])

-- two fields from this place on: a length, and a key that ends where its length says
unfoldable pub key_field_fault : ℕ → List ℕ → Option ChunkFault
key_field_fault at body =
    first_fault (
    short_fault at 4 body
    ∷ short_fault (at + 4) (spelled_at at 4 body) body
    ∷ key_fault (at + 4) (up_to_part at body)
    ∷ [])

-- two fields from this place on: a length, and the data of a chunk with this key
unfoldable pub value_field_fault : Key → ℕ → List ℕ → Option ChunkFault
value_field_fault key at body =
    let size = spelled_at at 4 body in
    first_fault (
    short_fault at 4 body
    ∷ fault_if (size == 0) (Empty at)
    ∷ fault_if (nat_lt chunk_limit size) (TooLong chunk_limit size)
    ∷ fault_if (nat_lt key.seq (key.start + size)) (BeforeStart key.seq size)
    ∷ short_fault (at + 4) size body
    ∷ [])

-- the fields of one chunk
unfoldable pub chunk_fault : ℕ → List ℕ → Option ChunkFault
chunk_fault at body =
    first_fault (
    key_field_fault at body
    ∷ value_field_fault (guessed_chunk at body).key (behind_part at body) body
    ∷ [])

-- the fields of so many chunks, behind which nothing follows
abbrev pub chunks_fault : ℕ → ℕ → List ℕ → Option ChunkFault
chunks_fault zero at body = trailing_fault at body
chunks_fault (suc count) at body =
    first_fault (chunk_fault at body ∷ chunks_fault count (behind_chunk at body) body ∷ [])

-- the first wrong field of a post
unfoldable pub post_fault : List ℕ → Option ChunkFault
post_fault body =
    let count = spelled_at 0 4 body in
    first_fault (
    fault_if (nat_lt post_limit (length body)) (TooLong post_limit (length body))
    ∷ short_fault 0 4 body
    ∷ fault_if (count == 0) (Empty 0)
    ∷ fault_if (nat_lt most_chunks count) (TooMany count)
    ∷ chunks_fault count 4 body
    ∷ [])
