-- A queue of chunks: a list with a limit.
use Rattle.std.specs.Prelude.{◌≡◌, ℕ, ◌+◌, ◌≤◌, ◌<◌, ◌&&◌, Bool, not, List, [], ◌∷◌, bytes_eq, length, take, sum_by, if◌then◌else◌}
use Rattle.chk_chunk.specs.Lent.{chunks_of}
use Rattle.chk_chunk.specs.Posts.{written_post}
use Rattle.chk_chunk.specs.declared.Chunk.{Chunk}

-- the most bytes of data that are kept, and the chunks, the oldest first
pub record Waiting : Type 0 where
  pub limit : ℕ
  pub chunks : List Chunk

-- how many bytes of data some chunks have
abbrev pub data_size : List Chunk → ℕ
data_size chunks = sum_by (λ c. length c.body) chunks

-- so much more data doesn't pass the limit
abbrev pub HasRoom : Waiting → ℕ → Type 0
HasRoom q need = data_size q.chunks + need ≤ q.limit

-- the chunks whose places are marked
abbrev pub marked : List Bool → List Chunk → List Chunk
marked [] chunks = []
marked (kept ∷ marks) [] = []
marked (kept ∷ marks) (c ∷ chunks) = if kept then c ∷ marked marks chunks else marked marks chunks

-- the longest front with at most so many chunks, whose post has at most so many bytes
pub record IsLongestFront (chunks front : List Chunk) (most bytes : ℕ) : Type 0 where
  pub is : front ≡ take (length front) chunks
  pub few : length front ≤ most
  pub short : 0 < length front → length (written_post (chunks_of front)) ≤ bytes
  pub longest : (n : ℕ) → length front < n → n ≤ length chunks → n ≤ most
      → bytes < length (written_post (chunks_of (take n chunks)))

-- the chunk is of the stream of this type and name
abbrev pub is_of : List ℕ → List ℕ → Chunk → Bool
is_of kind name chunk = bytes_eq chunk.kind kind && bytes_eq chunk.name name

-- or of another
abbrev pub is_of_other : List ℕ → List ℕ → Chunk → Bool
is_of_other kind name chunk = not (is_of kind name chunk)
