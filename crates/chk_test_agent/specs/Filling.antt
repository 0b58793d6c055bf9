-- What a delivery holds before its three chunks come, and what they are.
use Rattle.std.specs.Prelude.{◌≡◌, ℕ, [], ◌∷◌, IsTrue, length}
use Rattle.chk_chunk.specs.Keys.{is_chunk}
use Rattle.chk_chunk.specs.Lent.{chunk_of}
use Rattle.chk_chunk.specs.declared.Chunk.{Chunk}
use Rattle.chk_agent_delivery.specs.States.{State}

-- nothing waits; there is room for a million bytes, and two adaptors stand at offset 0
pub record IsFresh (s : State) : Type 0 where
  pub owners : s.owners ≡ []
  pub chunks : s.queue.chunks ≡ []
  pub limit : s.queue.limit ≡ 1000000
  pub last : s.table.last ≡ 0 ∷ 0 ∷ []

-- a chunk of six bytes up to this offset
pub record IsSix (end : ℕ) (c : Chunk) : Type 0 where
  pub valid : IsTrue (is_chunk (chunk_of c))
  pub seq : c.seq ≡ end
  pub size : length c.body ≡ 6
