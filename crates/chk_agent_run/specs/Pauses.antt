-- How long a turn waits at its end.
use Rattle.std.specs.Prelude.{ℕ, Bool, if◌then◌else◌}

-- how many milliseconds: so many behind a step that gave as much as one may, and 200 behind any other
abbrev pub waits : ℕ → Bool → ℕ
waits pause full = if full then pause else 200
