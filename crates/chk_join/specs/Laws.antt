-- The laws of the join of archives.
use Rattle.std.specs.Prelude.{◌≡◌}
use Rattle.chk_chunk.specs.Keys.{Stream}
use Rattle.chk_join.specs.Archives.{Archive, join, Agree, IsPrefix}

-- The join of an archive with itself is that archive. Of archives that agree it is the same in either order, and however three of
-- them are taken together. Prefixes of the same logs agree, and their join is a prefix of these logs too.
pub record JoinLaws : Type 0 where
  pub twice : (a : Archive) (s : Stream) → join a a s ≡ a s
  pub turned : (a b : Archive) → Agree a b → (s : Stream) → join a b s ≡ join b a s
  pub three : (a b c : Archive) → Agree a b → Agree b c → Agree a c → (s : Stream)
      → join (join a b) c s ≡ join a (join b c) s
  pub prefixes : (logs a b : Archive) → IsPrefix logs a → IsPrefix logs b → Agree a b
  pub joined : (logs a b : Archive) → IsPrefix logs a → IsPrefix logs b → IsPrefix logs (join a b)
