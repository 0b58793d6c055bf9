-- What is wrong with bytes that are no book: their first wrong field, in reading order. A text's length and the text are two
-- fields; the first five bytes are one.
use Rattle.std.specs.Prelude.{ℕ, zero, suc, ◌+◌, ◌*◌, Bool, true, false, ◌&&◌, ◌||◌, not, nat_eq, nat_lt, nat_le, List, [], ◌∷◌, length, take, bytes_eq, codes, if◌then◌else◌, Option, Some, None}
use Rattle.std.specs.List.{list_any}
use Rattle.chk_bytes.specs.Numbers.{limit, spelled_at}
use Rattle.chk_bytes.specs.Words.{is_word, text_lt}
use Rattle.chk_chunk.specs.Keys.{Stream, start_limit, stream_lt, text_at, behind_text, stream_at, behind_stream}
use Rattle.chk_world.specs.Books.{Segment}

-- the first of several places
unfoldable pub first_damage : List (Option ℕ) → Option ℕ
first_damage [] = None
first_damage (None ∷ fields) = first_damage fields
first_damage (Some at ∷ fields) = Some at

-- this place, unless the test holds
unfoldable pub damage_unless : Bool → ℕ → Option ℕ
damage_unless fine at = if fine then None else Some at

-- so many bytes stand there
abbrev pub has : ℕ → ℕ → List ℕ → Bool
has at size bytes = nat_le (at + size) (length bytes)

-- the first five bytes: the four letters, and a version
unfoldable pub head_damage : List ℕ → Option ℕ
head_damage bytes =
    damage_unless (has 0 5 bytes && (bytes_eq (take 4 bytes) (codes "CHKB") && (nat_le 1 (spelled_at 4 1 bytes) && nat_le (spelled_at 4 1 bytes) 3))) 0

-- the next number
unfoldable pub next_damage : List ℕ → Option ℕ
next_damage bytes = damage_unless (has 5 8 bytes && (nat_lt 0 (spelled_at 5 8 bytes) && nat_lt (spelled_at 5 8 bytes) limit)) 5

-- a count
unfoldable pub count_damage : ℕ → List ℕ → Option ℕ
count_damage at bytes = damage_unless (has at 4 bytes) at

-- a segment whose number is past the last one
unfoldable pub segment_damage : ℕ → ℕ → ℕ → List ℕ → Option ℕ
segment_damage next last at bytes =
    first_damage (
    damage_unless (has at 8 bytes && (nat_lt last (spelled_at at 8 bytes) && nat_lt (spelled_at at 8 bytes) next)) at
    ∷ damage_unless (has (at + 8) 8 bytes && (nat_le 96 (spelled_at (at + 8) 8 bytes) && nat_lt (spelled_at (at + 8) 8 bytes) limit)) (at + 8)
    ∷ [])

-- so many segments
abbrev pub segments_damage : ℕ → ℕ → ℕ → ℕ → List ℕ → Option ℕ
segments_damage zero next last at bytes = None
segments_damage (suc count) next last at bytes =
    first_damage (segment_damage next last at bytes ∷ segments_damage count next (spelled_at at 8 bytes) (at + 16) bytes ∷ [])

-- where a stream's end stands, behind its start if it has one
abbrev pub end_place : Bool → ℕ → ℕ
end_place starts at = if starts then at + 8 else at

-- a stream's start
abbrev pub start_there : Bool → ℕ → List ℕ → ℕ
start_there starts at bytes = if starts then spelled_at at 8 bytes else 0

-- a stream's start and end
unfoldable pub offsets_damage : Bool → ℕ → List ℕ → Option ℕ
offsets_damage starts at bytes =
    first_damage (
    damage_unless (not starts || (has at 8 bytes && nat_lt (spelled_at at 8 bytes) start_limit)) at
    ∷ damage_unless (has (end_place starts at) 8 bytes && (nat_le (start_there starts at bytes) (spelled_at (end_place starts at) 8 bytes)
    && nat_lt (spelled_at (end_place starts at) 8 bytes) limit)) (end_place starts at)
    ∷ [])

-- a text's length, and the text, which is a word
unfoldable pub text_damage : ℕ → List ℕ → Option ℕ
text_damage at bytes =
    let size = spelled_at at 2 bytes in
    first_damage (
    damage_unless (has at 2 bytes && (nat_lt 0 size && nat_le size 4096)) at
    ∷ damage_unless (has (at + 2) size bytes && is_word (text_at at bytes)) (at + 2)
    ∷ [])

-- a text comes before that of the stream before, if there is one and the texts so far are the same
abbrev pub source_falls : Option Stream → List ℕ → Bool
source_falls None source = false
source_falls (Some last) source = text_lt source last.source

abbrev pub kind_falls : Option Stream → List ℕ → List ℕ → Bool
kind_falls None source kind = false
kind_falls (Some last) source kind = bytes_eq source last.source && text_lt kind last.kind

-- the stream comes behind the one before, if there is one
abbrev pub comes_behind : Option Stream → Stream → Bool
comes_behind None s = true
comes_behind (Some last) s = stream_lt last s

-- a stream's three texts, behind the stream before
unfoldable pub stream_damage : Option Stream → ℕ → List ℕ → Option ℕ
stream_damage last at bytes =
    let s = stream_at at bytes in
    let kind_at = behind_text at bytes in
    let name_at = behind_text kind_at bytes in
    first_damage (
    text_damage at bytes
    ∷ damage_unless (not (source_falls last s.source)) (at + 2)
    ∷ text_damage kind_at bytes
    ∷ damage_unless (not (kind_falls last s.source s.kind)) (kind_at + 2)
    ∷ text_damage name_at bytes
    ∷ damage_unless (comes_behind last s) (name_at + 2)
    ∷ [])

-- where a stream's texts begin
abbrev pub texts_place : Bool → ℕ → ℕ
texts_place starts at = end_place starts at + 8

-- a stream, behind the stream before
unfoldable pub end_damage : Bool → Option Stream → ℕ → List ℕ → Option ℕ
end_damage starts last at bytes =
    first_damage (offsets_damage starts at bytes ∷ stream_damage last (texts_place starts at) bytes ∷ [])

-- so many streams
abbrev pub ends_damage : ℕ → Bool → Option Stream → ℕ → List ℕ → Option ℕ
ends_damage zero starts last at bytes = None
ends_damage (suc count) starts last at bytes =
    first_damage (
    end_damage starts last at bytes
    ∷ ends_damage count starts (Some (stream_at (texts_place starts at) bytes)) (behind_stream (texts_place starts at) bytes) bytes
    ∷ [])

-- the place behind so many streams
abbrev pub ends_place : ℕ → Bool → ℕ → List ℕ → ℕ
ends_place zero starts at bytes = at
ends_place (suc count) starts at bytes = ends_place count starts (behind_stream (texts_place starts at) bytes) bytes

-- so many segments that would stand there
abbrev pub segments_there : ℕ → ℕ → List ℕ → List Segment
segments_there zero at bytes = []
segments_there (suc count) at bytes =
    record { number = spelled_at at 8 bytes; length = spelled_at (at + 8) 8 bytes } ∷ segments_there count (at + 16) bytes

-- one of the segments has this number
abbrev pub is_taken : ℕ → List Segment → Bool
is_taken number segments = list_any (λ h. nat_eq h.number number) segments

-- the aside segment, whose number no segment of these has
unfoldable pub aside_damage : ℕ → List Segment → ℕ → List ℕ → Option ℕ
aside_damage next segments at bytes =
    first_damage (
    damage_unless (has at 8 bytes && (nat_lt 0 (spelled_at at 8 bytes) && (nat_lt (spelled_at at 8 bytes) next
    && not (is_taken (spelled_at at 8 bytes) segments)))) at
    ∷ damage_unless (has (at + 8) 8 bytes && (nat_le 96 (spelled_at (at + 8) 8 bytes) && nat_lt (spelled_at (at + 8) 8 bytes) limit)) (at + 8)
    ∷ [])

-- nothing stands there or behind it
unfoldable pub trailing_damage : ℕ → List ℕ → Option ℕ
trailing_damage at bytes = damage_unless (not (nat_lt at (length bytes))) at

-- the fields behind the streams
unfoldable pub tail_damage : Bool → ℕ → List Segment → ℕ → List ℕ → Option ℕ
tail_damage aside next segments at bytes =
    if aside then first_damage (aside_damage next segments at bytes ∷ trailing_damage (at + 16) bytes ∷ [])
    else trailing_damage at bytes

-- the first wrong field of a book
unfoldable pub book_damage : List ℕ → Option ℕ
book_damage bytes =
    let version = spelled_at 4 1 bytes in
    let next = spelled_at 5 8 bytes in
    let segments = spelled_at 13 4 bytes in
    let from = 17 + 16 * segments in
    let ends = spelled_at from 4 bytes in
    let starts = nat_le 2 version in
    first_damage (
    head_damage bytes
    ∷ next_damage bytes
    ∷ count_damage 13 bytes
    ∷ segments_damage segments next 0 17 bytes
    ∷ count_damage from bytes
    ∷ ends_damage ends starts None (from + 4) bytes
    ∷ tail_damage (nat_le 3 version) next (segments_there segments 17 bytes) (ends_place ends starts (from + 4) bytes) bytes
    ∷ [])
