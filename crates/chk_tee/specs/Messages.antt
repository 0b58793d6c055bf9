-- Messages of a tee: a mark, a count, and so many chunks, each behind its stem and its offset.
use Rattle.std.specs.Prelude.{◌≡◌, ℕ, zero, suc, ◌+◌, ◌≤◌, ◌<◌, Bool, ◌&&◌, List, [], ◌∷◌, ◌++◌, length, unwrap_or, IsTrue, All}
use Rattle.chk_bytes.specs.Numbers.{be32, be64, spelled_at}
use Rattle.chk_bytes.specs.Stems.{Stem, is_stem, is_count, stem_text, stem_of, read_stem}
use Rattle.chk_chunk.specs.Keys.{Chunk, IsKey, is_chunk, counted, text_at, behind_text, written_key}
use Rattle.chk_chunk.specs.Posts.{post_part, guessed_chunk, behind_chunk}

-- a chunk that was written to a sink, and the place there at which its record ends
pub record Teed : Type 0 where
  pub stem : Stem
  pub offset : ℕ
  pub chunk : Chunk

-- the most bytes of a message
abbrev pub tee_limit : ℕ
tee_limit = 4308309

-- the most chunks of a message
abbrev pub most_teed : ℕ
most_teed = 1000

-- how a message begins: `CHKT`, and the version
abbrev pub tee_mark : List ℕ
tee_mark = 67 ∷ 72 ∷ 75 ∷ 84 ∷ 1 ∷ []

-- it can be spelled
abbrev pub is_teed : Teed → Bool
is_teed t = is_stem t.stem && (is_count t.offset && is_chunk t.chunk)

-- its bytes, its key spelled so
abbrev pub tee_part : Teed → List ℕ → List ℕ
tee_part t key = counted (stem_text t.stem) ++ (be64 t.offset ++ post_part key t.chunk.value)

-- the bytes are these chunks, one after the other, each key in one of its spellings
abbrev pub AreTeeParts : List Teed → List ℕ → Type 0
AreTeeParts [] bytes = bytes ≡ []
AreTeeParts (t ∷ ts) bytes =
    (key : List ℕ)
    × (rest : List ℕ)
    × IsTrue (is_teed t)
    × IsKey t.chunk.key key
    × (bytes ≡ tee_part t key ++ rest)
    × AreTeeParts ts rest

-- the bytes are a message of these chunks
pub record IsTee (items : List Teed) (bytes : List ℕ) : Type 0 where
  pub some : 0 < length items
  pub few : length items ≤ most_teed
  pub short : length bytes ≤ tee_limit
  pub parts : List ℕ
  pub is : bytes ≡ tee_mark ++ (be32 (length items) ++ parts)
  pub are : AreTeeParts items parts

-- each can be spelled
abbrev pub AreTeed : List Teed → Type 0
AreTeed items = All (λ t. IsTrue (is_teed t)) items

-- a chunk as it is written
unfoldable pub written_teed : Teed → List ℕ
written_teed t = tee_part t (written_key t.chunk.key)

-- some, one after the other
abbrev pub written_teeds : List Teed → List ℕ
written_teeds [] = []
written_teeds (t ∷ ts) = written_teed t ++ written_teeds ts

-- a message as it is written
abbrev pub written_tee : List Teed → List ℕ
written_tee items = (tee_mark ++ be32 (length items)) ++ written_teeds items

-- the stem that a text spells, where it spells one
abbrev pub stem_in : List ℕ → Stem
stem_in text = unwrap_or (read_stem text) (stem_of [] 0 0)

-- the place of the chunk's key, behind the stem and the offset
abbrev pub chunk_at : ℕ → List ℕ → ℕ
chunk_at at bytes = behind_text at bytes + 8

-- the chunk that the bytes from this place on would be, with its stem and its offset
unfoldable pub guessed_teed : ℕ → List ℕ → Teed
guessed_teed at bytes = record {
  stem = stem_in (text_at at bytes);
  offset = spelled_at (behind_text at bytes) 8 bytes;
  chunk = guessed_chunk (chunk_at at bytes) bytes;
}

-- the place behind it
abbrev pub behind_teed : ℕ → List ℕ → ℕ
behind_teed at bytes = behind_chunk (chunk_at at bytes) bytes

-- the chunks that they would be, so many
abbrev pub guessed_teeds : ℕ → ℕ → List ℕ → List Teed
guessed_teeds zero at bytes = []
guessed_teeds (suc count) at bytes = guessed_teed at bytes ∷ guessed_teeds count (behind_teed at bytes) bytes
