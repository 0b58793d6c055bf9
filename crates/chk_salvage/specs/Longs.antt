-- Records that are longer than a limit.
use Rattle.std.specs.Prelude.{◌≡◌, ℕ, ◌+◌, ◌<◌, ◌≤◌, ◌^◌, List, length}
use Rattle.chk_bytes.specs.Numbers.{spelled_at}

-- the record that begins at a place says that it has more than limit bytes, but less than 2^31
pub record IsLong (limit : ℕ) (bytes : List ℕ) (at need : ℕ) : Type 0 where
  pub there : at + 4 ≤ length bytes
  pub is : need ≡ spelled_at at 4 bytes
  pub over : limit < need
  pub small : need < 2 ^ 31

-- no such record begins there
abbrev pub NotLong : ℕ → List ℕ → ℕ → Type 0
NotLong limit bytes at = (need : ℕ) → IsLong limit bytes at need → ⊥
