-- What reading a field found.
use Rattle.std.specs.Prelude.{◌≡◌, ℕ, ◌+◌, ◌≤◌, List, length, None}
use Rattle.chk_bytes.specs.Numbers.{spelled_at}
use Rattle.chk_chunk.specs.Keys.{Stream, Key, Chunk, guessed_key, text_at, behind_text, stream_at, behind_stream}
use Rattle.chk_chunk.specs.Posts.{part_at, behind_part, up_to_part, guessed_chunk, behind_chunk}
use Rattle.chk_chunk.specs.Faults.{text_fault, stream_fault, head_fault, key_field_fault, value_field_fault, chunk_fault}
use Rattle.chk_chunk.specs.declared.fields.StreamRef.{StreamRef}

-- the number that so many bytes at a place spell
pub record IsNumberAt (at size : ℕ) (bytes : List ℕ) (n : ℕ) : Type 0 where
  pub within : at + size ≤ length bytes
  pub is : n ≡ spelled_at at size bytes

-- the text that stands at a place, and the place behind it
pub record IsTextAt (at : ℕ) (bytes text : List ℕ) (end : ℕ) : Type 0 where
  pub fine : text_fault at bytes ≡ None
  pub is : text ≡ text_at at bytes
  pub behind : end ≡ behind_text at bytes
  pub within : end ≤ length bytes

-- the stream that some texts are
abbrev pub lent_stream : StreamRef → Stream
lent_stream s = record { source = s.source.now; kind = s.kind.now; name = s.name.now }

-- the stream whose texts stand at a place, and the place behind it
pub record IsStreamAt (at : ℕ) (bytes : List ℕ) (stream : StreamRef) (end : ℕ) : Type 0 where
  pub fine : stream_fault at bytes ≡ None
  pub is : lent_stream stream ≡ stream_at at bytes
  pub behind : end ≡ behind_stream at bytes
  pub within : end ≤ length bytes

-- the version and the sequence id of the key that begins at a place
pub record IsHeadAt (at : ℕ) (bytes : List ℕ) (version seq : ℕ) : Type 0 where
  pub fine : head_fault at bytes ≡ None
  pub version_is : version ≡ spelled_at at 1 bytes
  pub seq_is : seq ≡ spelled_at (at + 1) 8 bytes
  pub within : at + 9 ≤ length bytes

-- the key whose length stands at a place, and the place behind it
pub record IsKeyFieldAt (at : ℕ) (body : List ℕ) (key : Key) (end : ℕ) : Type 0 where
  pub fine : key_field_fault at body ≡ None
  pub is : key ≡ guessed_key (at + 4) (up_to_part at body)
  pub behind : end ≡ behind_part at body
  pub within : end ≤ length body

-- the data whose length stands at a place, of a chunk with this key, and the place behind it
pub record IsValueAt (key : Key) (at : ℕ) (body value : List ℕ) (end : ℕ) : Type 0 where
  pub fine : value_field_fault key at body ≡ None
  pub is : value ≡ part_at at body
  pub behind : end ≡ behind_part at body
  pub within : end ≤ length body

-- the chunk that stands at a place, and the place behind it
pub record IsChunkAt (at : ℕ) (body : List ℕ) (chunk : Chunk) (end : ℕ) : Type 0 where
  pub fine : chunk_fault at body ≡ None
  pub is : chunk ≡ guessed_chunk at body
  pub behind : end ≡ behind_chunk at body
  pub within : end ≤ length body
