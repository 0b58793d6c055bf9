-- How much a step gives.
use Rattle.std.specs.Prelude.{ℕ, ◌≤◌, length, Option, Some, None}
use Rattle.chk_site.specs.declared.limits.TheConstants.{PIECE_BYTES, LOG_END}
use Rattle.chk_tail.specs.declared.step.Step.{Step}
use Rattle.chk_tail.specs.declared.step.Step.TheVariants.{Bytes}

-- a piece at most, which doesn't go past the place at which each log ends
abbrev pub IsGiven : Step → Type 0
IsGiven (Bytes bytes end) = (length bytes ≤ PIECE_BYTES) × (end ≤ LOG_END)
IsGiven step = Unit {0}

-- the same of a step that gave something
abbrev pub AreGiven : Option Step → Type 0
AreGiven (Some step) = IsGiven step
AreGiven None = Unit {0}
