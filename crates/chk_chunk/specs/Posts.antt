-- Posts: a count of chunks, and each chunk's key and data behind their lengths.
use Rattle.std.specs.Prelude.{◌≡◌, ℕ, zero, suc, ◌+◌, ◌≤◌, ◌<◌, List, [], ◌∷◌, ◌++◌, length, take, drop, IsTrue, All}
use Rattle.chk_bytes.specs.Numbers.{be32, spelled_at, with_length}
use Rattle.chk_chunk.specs.Keys.{Chunk, IsKey, is_chunk, written_key, guessed_key}

-- the most bytes of a post
abbrev pub post_limit : ℕ
post_limit = 4194304

-- the most chunks of a post
abbrev pub most_chunks : ℕ
most_chunks = 1000

-- the bytes of a chunk in a post, its key spelled so
abbrev pub post_part : List ℕ → List ℕ → List ℕ
post_part key value = with_length key ++ with_length value

-- the bytes are these chunks, one after the other, each key in one of its spellings
abbrev pub ArePostParts : List Chunk → List ℕ → Type 0
ArePostParts [] bytes = bytes ≡ []
ArePostParts (c ∷ cs) bytes =
    (key : List ℕ)
    × (rest : List ℕ)
    × IsTrue (is_chunk c)
    × IsKey c.key key
    × (bytes ≡ post_part key c.value ++ rest)
    × ArePostParts cs rest

-- the body is a post of these chunks
pub record IsPost (chunks : List Chunk) (body : List ℕ) : Type 0 where
  pub some : 0 < length chunks
  pub few : length chunks ≤ most_chunks
  pub short : length body ≤ post_limit
  pub parts : List ℕ
  pub is : body ≡ be32 (length chunks) ++ parts
  pub are : ArePostParts chunks parts

-- each can be spelled
abbrev pub AreChunks : List Chunk → Type 0
AreChunks chunks = All (λ c. IsTrue (is_chunk c)) chunks

-- a chunk as it is written
unfoldable pub written_part : Chunk → List ℕ
written_part c = post_part (written_key c.key) c.value

-- some, one after the other
abbrev pub written_parts : List Chunk → List ℕ
written_parts [] = []
written_parts (c ∷ cs) = written_part c ++ written_parts cs

-- a post as it is written
abbrev pub written_post : List Chunk → List ℕ
written_post chunks = be32 (length chunks) ++ written_parts chunks

-- the bytes whose length stands at this place
abbrev pub part_at : ℕ → List ℕ → List ℕ
part_at at body = take (spelled_at at 4 body) (drop (at + 4) body)

-- the place behind them
abbrev pub behind_part : ℕ → List ℕ → ℕ
behind_part at body = at + 4 + spelled_at at 4 body

-- the body up to there
abbrev pub up_to_part : ℕ → List ℕ → List ℕ
up_to_part at body = take (behind_part at body) body

-- the chunk that the bytes from this place on would be
unfoldable pub guessed_chunk : ℕ → List ℕ → Chunk
guessed_chunk at body = record {
  key = guessed_key (at + 4) (up_to_part at body);
  value = part_at (behind_part at body) body;
}

-- the place behind it
abbrev pub behind_chunk : ℕ → List ℕ → ℕ
behind_chunk at body = behind_part (behind_part at body) body

-- the chunks that they would be, so many
abbrev pub guessed_chunks : ℕ → ℕ → List ℕ → List Chunk
guessed_chunks zero at body = []
guessed_chunks (suc count) at body = guessed_chunk at body ∷ guessed_chunks count (behind_chunk at body) body
