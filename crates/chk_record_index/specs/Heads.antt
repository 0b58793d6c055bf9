-- Heads: of each chunk all but its data, and where its record stands.
use Rattle.std.specs.Prelude.{◌≡◌, ℕ, Bool, true, false, List, [], ◌∷◌, ◌++◌, filter_map, Option, Some, None, option_map}
use Rattle.chk_chunk.specs.Keys.{Key, Chunk, chunk_begin}
use Rattle.chk_seqfile.specs.Entries.{Placed, records_of}
use Rattle.chk_world.specs.Books.{chunk_of}

-- the chunk's key, its first offset, the number of its file and the place of its record there
pub record Head : Type 0 where
  pub key : Key
  pub begin : ℕ
  pub file : ℕ
  pub at : ℕ

-- the head of a chunk with this key that begins there, whose record stands there
abbrev pub head_with : Key → ℕ → ℕ → ℕ → Head
head_with key begin file at = record { key = key; begin = begin; file = file; at = at }

-- the head of a chunk whose record stands there
abbrev pub head_of : ℕ → ℕ → Chunk → Head
head_of file at c = head_with c.key (chunk_begin c) file at

-- the head of a record, where that is a chunk of at most so many bytes
abbrev pub head_at : ℕ → ℕ → Placed → Option Head
head_at most file r = option_map (head_of file r.at) (chunk_of most r)

-- the heads of a file's chunks
abbrev pub heads_in : ℕ → ℕ → List ℕ → List Head
heads_in most file bytes = filter_map (head_at most file) (records_of bytes)

-- where the record is a chunk of at most so many bytes, its head stands behind the others; else they are as before
abbrev pub IsTaken : Bool → ℕ → ℕ → Placed → List Head → List Head → Type 0
IsTaken true most file r old new =
    (c : Chunk) × (chunk_of most r ≡ Some c) × (new ≡ old ++ head_of file r.at c ∷ [])
IsTaken false most file r old new = (chunk_of most r ≡ None) × (new ≡ old)

-- the same, or the heads are as they were
abbrev pub IsTakenIf : Option Bool → ℕ → ℕ → Placed → List Head → List Head → Type 0
IsTakenIf None most file r old new = new ≡ old
IsTakenIf (Some is) most file r old new = IsTaken is most file r old new
