-- The end of what is covered without a gap.
use Rattle.std.specs.Prelude.{ℕ, ◌≤◌, ◌<◌}

-- each offset from here up to there is covered
abbrev pub AllCovered : (ℕ → Type 0) → ℕ → ℕ → Type 0
AllCovered covered from to = (offset : ℕ) → from ≤ offset → offset < to → covered offset

-- the greatest end of at least `from` up to which each offset is covered
pub record IsContiguousEnd (covered : ℕ → Type 0) (from end : ℕ) : Type 0 where
  pub on : from ≤ end
  pub no_gap : AllCovered covered from end
  pub greatest : (other : ℕ) → from ≤ other → AllCovered covered from other → other ≤ end
