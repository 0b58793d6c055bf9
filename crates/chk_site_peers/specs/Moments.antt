-- Moments of the clock, and the ends of waits.
use Rattle.std.specs.Prelude.{◌+◌, ◌*◌, ◌≤◌, ℕ, Option, Some, None}
use Rattle.std.specs.declared.time.Duration.{Duration}
use Rattle.std.specs.Duration.{as_nanos}

-- at this moment no more than so many milliseconds are left until the end, or the clock gave none
abbrev pub IsNear : Duration → Option Duration → ℕ → Type 0
IsNear end None ms = Unit
IsNear end (Some now) ms = as_nanos end ≤ as_nanos now + ms * 1000000
