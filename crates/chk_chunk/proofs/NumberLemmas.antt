-- Numbers that stand at places.
use Rattle.std.proofs.Common.{◌≡◌, ℕ, zero, suc, ◌+◌, ◌≤◌, List, [], ◌∷◌, length, take, drop, arith}
use Rattle.std.proofs.lemmas.List.{length-drop, length-take-le, get_or-drop}
use Rattle.chk_bytes.specs.Laws.{AreBytes}
use Rattle.chk_bytes.specs.Numbers.{be16, be32, be64, spelled_at}
use Rattle.chk_bytes.proofs.NumberLemmas.{be16-spelled, be32-spelled, be64-spelled}

pub AreBytes-drop : (n : ℕ) (bytes : List ℕ) → AreBytes bytes → AreBytes (drop n bytes)
AreBytes-drop n bytes are i = rw get_or-drop (are (n + i))

pub AreBytes-take : (n : ℕ) (bytes : List ℕ) → AreBytes bytes → AreBytes (take n bytes)
AreBytes-take zero bytes are i = omega arith
AreBytes-take (suc n) [] are i = omega arith
AreBytes-take (suc n) (b ∷ bytes) are zero = are 0
AreBytes-take (suc n) (b ∷ bytes) are (suc i) = AreBytes-take n bytes (λ k. are (suc k)) i

-- the bytes that stand there
piece_size : (at size : ℕ) (bytes : List ℕ) → at + size ≤ length bytes → length (take size (drop at bytes)) ≡ size
piece_size at size bytes fits = length-take-le size (drop at bytes) (let n = length-drop at bytes in omega arith)

piece_bytes : (at size : ℕ) (bytes : List ℕ) → AreBytes bytes → AreBytes (take size (drop at bytes))
piece_bytes at size bytes are = AreBytes-take size (drop at bytes) (AreBytes-drop at bytes are)

-- are those of the number that they spell
pub be16-stands : (at : ℕ) (bytes : List ℕ) → AreBytes bytes → at + 2 ≤ length bytes
    → be16 (spelled_at at 2 bytes) ≡ take 2 (drop at bytes)
be16-stands at bytes are fits = be16-spelled _ (piece_size at 2 bytes fits) (piece_bytes at 2 bytes are)

pub be32-stands : (at : ℕ) (bytes : List ℕ) → AreBytes bytes → at + 4 ≤ length bytes
    → be32 (spelled_at at 4 bytes) ≡ take 4 (drop at bytes)
be32-stands at bytes are fits = be32-spelled _ (piece_size at 4 bytes fits) (piece_bytes at 4 bytes are)

pub be64-stands : (at : ℕ) (bytes : List ℕ) → AreBytes bytes → at + 8 ≤ length bytes
    → be64 (spelled_at at 8 bytes) ≡ take 8 (drop at bytes)
be64-stands at bytes are fits = be64-spelled _ (piece_size at 8 bytes fits) (piece_bytes at 8 bytes are)
