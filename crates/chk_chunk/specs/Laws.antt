-- The laws of keys and posts.
use Rattle.std.specs.Prelude.{◌≡◌, ◌↔◌, ◌<◌, ◌≤◌, ℕ, List, length, None, Some, IsTrue}
use Rattle.chk_bytes.specs.Words.{BeginsWith}
use Rattle.chk_chunk.specs.Keys.{Key, Chunk, IsKey, is_key, read_key, written_key}
use Rattle.chk_chunk.specs.Posts.{IsPost, AreChunks, written_post, post_limit, most_chunks}
use Rattle.chk_chunk.specs.Faults.{key_fault, post_fault}

-- bytes have no fault as a key exactly where they are some key
abbrev pub FaultlessIsKey : List ℕ → Type 0
FaultlessIsKey bytes = (key_fault 0 bytes ≡ None) ↔ ((k : Key) × IsKey k bytes)

-- bytes have no fault as a post exactly where they are a post of some chunks
abbrev pub FaultlessIsPost : List ℕ → Type 0
FaultlessIsPost body = (post_fault body ≡ None) ↔ ((chunks : List Chunk) × IsPost chunks body)

-- bytes are one key at most
abbrev pub KeyIsOne : Type 0
KeyIsOne = (k l : Key) (bytes : List ℕ) → IsKey k bytes → IsKey l bytes → k ≡ l

-- a body is a post of one list of chunks at most
abbrev pub PostIsOne : Type 0
PostIsOne = (cs ds : List Chunk) (body : List ℕ) → IsPost cs body → IsPost ds body → cs ≡ ds

-- no spelling of a key begins another one
abbrev pub KeyStandsAlone : Type 0
KeyStandsAlone = (k l : Key) (short long : List ℕ) → IsKey k short → IsKey l long → BeginsWith long short → short ≡ long

-- no post begins another one
abbrev pub PostStandsAlone : Type 0
PostStandsAlone =
    (cs ds : List Chunk) (short long : List ℕ) → IsPost cs short → IsPost ds long → BeginsWith long short → short ≡ long

-- the written form of a key is in the grammar
abbrev pub WrittenKeyIsKey : Type 0
WrittenKeyIsKey = (k : Key) → IsTrue (is_key k) → IsKey k (written_key k)

-- the written form of a post is in the grammar
abbrev pub WrittenPostIsPost : Type 0
WrittenPostIsPost =
    (chunks : List Chunk) → 0 < length chunks → length chunks ≤ most_chunks → AreChunks chunks
    → length (written_post chunks) ≤ post_limit → IsPost chunks (written_post chunks)

-- the key that is read of bytes is the one that they are
abbrev pub KeyIsRead : Type 0
KeyIsRead = (k : Key) (bytes : List ℕ) → (read_key bytes ≡ Some k) ↔ IsKey k bytes
