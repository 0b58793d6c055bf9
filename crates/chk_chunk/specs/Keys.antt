-- Streams, keys and chunks, and how a key is spelled.
use Rattle.std.specs.Prelude.{◌≡◌, ◌⊎◌, ℕ, ◌+◌, ◌-◌, ◌≤◌, ◌<◌, ◌^◌, Bool, ◌&&◌, ◌||◌, ◌==◌, nat_eq, nat_le, nat_lt, List, ◌∷◌, ◌++◌, length, take, drop, IsTrue, bytes_eq, codes, if◌then◌else◌, Option}
use Rattle.chk_bytes.specs.Numbers.{be16, be64, limit, spelled_at}
use Rattle.chk_bytes.specs.Words.{is_word, spelling, text_lt}

-- a source, a data type and a name, which is the path of a log
pub record Stream : Type 0 where
  pub source : List ℕ
  pub kind : List ℕ
  pub name : List ℕ

-- they are the same stream
abbrev pub same_stream : Stream → Stream → Bool
same_stream s t = bytes_eq s.source t.source && (bytes_eq s.kind t.kind && bytes_eq s.name t.name)

-- the byte order of source, type and name
abbrev pub stream_lt : Stream → Stream → Bool
stream_lt s t =
    text_lt s.source t.source
    || (bytes_eq s.source t.source && (text_lt s.kind t.kind || (bytes_eq s.kind t.kind && text_lt s.name t.name)))

-- a stream and its start, a cluster, and the offset just past the last byte
pub record Key : Type 0 where
  pub stream : Stream
  pub start : ℕ
  pub cluster : List ℕ
  pub seq : ℕ

-- the cluster of a key that names none
abbrev pub no_cluster : List ℕ
no_cluster = codes "none"

-- starts are below this
abbrev pub start_limit : ℕ
start_limit = 2 ^ 62

-- three words
abbrev pub is_stream : Stream → Bool
is_stream s = is_word s.source && (is_word s.kind && is_word s.name)

-- a key of words alone
abbrev pub has_words : Key → Bool
has_words k = is_stream k.stream && is_word k.cluster

-- a key that can be spelled
abbrev pub is_key : Key → Bool
is_key k =
    is_stream k.stream
    && (is_word k.cluster && (nat_lt k.start start_limit && (nat_lt k.start k.seq && nat_lt k.seq limit)))

-- a text behind its length
abbrev pub counted : List ℕ → List ℕ
counted text = be16 (length text) ++ text

-- a stream's three texts, each behind its length
abbrev pub counted_stream : Stream → List ℕ
counted_stream s = counted s.source ++ (counted s.kind ++ counted s.name)

-- a key of version 1, which has start 0 and no cluster
unfoldable pub key_1 : Key → List ℕ
key_1 k = 1 ∷ (be64 k.seq ++ counted_stream k.stream)

-- the first version says all of the key
abbrev pub fits_1 : Key → Bool
fits_1 k = k.start == 0 && bytes_eq k.cluster no_cluster

-- a key that the first version can spell
abbrev pub is_key_1 : Key → Bool
is_key_1 k = is_key k && fits_1 k

-- a key of version 2
unfoldable pub key_2 : Key → List ℕ
key_2 k = 2 ∷ (be64 k.seq ++ (be64 k.start ++ (counted_stream k.stream ++ counted k.cluster)))

-- version 1 is written where it says all
unfoldable pub written_key : Key → List ℕ
written_key k = if fits_1 k then key_1 k else key_2 k

-- the bytes are the key
abbrev pub IsKey : Key → List ℕ → Type 0
IsKey k bytes = (IsTrue (is_key_1 k) × (bytes ≡ key_1 k)) ⊎ (IsTrue (is_key k) × (bytes ≡ key_2 k))

-- the text that stands behind its length at this place
abbrev pub text_at : ℕ → List ℕ → List ℕ
text_at at bytes = take (spelled_at at 2 bytes) (drop (at + 2) bytes)

-- the place behind that text
abbrev pub behind_text : ℕ → List ℕ → ℕ
behind_text at bytes = at + 2 + spelled_at at 2 bytes

-- the stream whose three texts stand there
abbrev pub stream_at : ℕ → List ℕ → Stream
stream_at at bytes =
    let kind_at = behind_text at bytes in
    let name_at = behind_text kind_at bytes in
    record { source = text_at at bytes; kind = text_at kind_at bytes; name = text_at name_at bytes }

-- the place behind them
abbrev pub behind_stream : ℕ → List ℕ → ℕ
behind_stream at bytes = behind_text (behind_text (behind_text at bytes) bytes) bytes

-- the key of version 1 that the bytes from this place on would be
abbrev pub guessed_1 : ℕ → List ℕ → Key
guessed_1 at bytes = record {
  stream = stream_at (at + 9) bytes;
  start = 0;
  cluster = no_cluster;
  seq = spelled_at (at + 1) 8 bytes;
}

-- the key of version 2 that they would be
abbrev pub guessed_2 : ℕ → List ℕ → Key
guessed_2 at bytes = record {
  stream = stream_at (at + 17) bytes;
  start = spelled_at (at + 9) 8 bytes;
  cluster = text_at (behind_stream (at + 17) bytes) bytes;
  seq = spelled_at (at + 1) 8 bytes;
}

-- the bytes from this place on begin with a 1
abbrev pub is_version_1 : ℕ → List ℕ → Bool
is_version_1 at bytes = spelled_at at 1 bytes == 1

-- the key that they would be
unfoldable pub guessed_key : ℕ → List ℕ → Key
guessed_key at bytes = if is_version_1 at bytes then guessed_1 at bytes else guessed_2 at bytes

-- the key that the bytes are
unfoldable pub read_key : List ℕ → Option Key
read_key bytes =
    if is_version_1 0 bytes then spelling is_key_1 key_1 (guessed_1 0 bytes) bytes
    else spelling is_key key_2 (guessed_2 0 bytes) bytes

-- a chunk: the bytes of a stream that end at the key's offset
pub record Chunk : Type 0 where
  pub key : Key
  pub value : List ℕ

-- the offset just past a chunk's last byte
abbrev pub chunk_end : Chunk → ℕ
chunk_end c = c.key.seq

-- the offset of its first byte
abbrev pub chunk_begin : Chunk → ℕ
chunk_begin c = c.key.seq - length c.value

-- the most bytes of a chunk
abbrev pub chunk_limit : ℕ
chunk_limit = 131072

-- the most bytes of a record of a type
abbrev pub record_limit : ℕ
record_limit = 1048576

-- the value has at least one byte, no more than this many, and doesn't begin before the stream's start
abbrev pub has_value : ℕ → Key → List ℕ → Bool
has_value most k value =
    nat_lt 0 (length value) && (nat_le (length value) most && nat_le (k.start + length value) k.seq)

-- a chunk that can be spelled
abbrev pub is_chunk : Chunk → Bool
is_chunk c = is_key c.key && has_value chunk_limit c.key c.value

-- the chunk is of this stream
abbrev pub is_of : Stream → Chunk → Bool
is_of s c = same_stream s c.key.stream

-- the chunk of s covers the offset
abbrev pub Covers : Stream → ℕ → Chunk → Type 0
Covers s o c = IsTrue (is_of s c) × (chunk_begin c ≤ o) × (o < chunk_end c)

-- equal in stream, sequence id and data
abbrev pub same_data : Chunk → Chunk → Bool
same_data c d =
    same_stream c.key.stream d.key.stream && (nat_eq c.key.seq d.key.seq && bytes_eq c.value d.value)

-- they are the same key
abbrev pub same_key : Key → Key → Bool
same_key k l =
    same_stream k.stream l.stream
    && (nat_eq k.start l.start && (bytes_eq k.cluster l.cluster && nat_eq k.seq l.seq))
