-- Generations that a reader passed.
use Rattle.std.specs.Prelude.{ℕ, ◌-◌, ◌^◌, Bool, ◌&&◌, not, nat_lt, nat_le, if◌then◌else◌, true, Option, Some, None, min, ◌+◌}
use Rattle.chk_site_rotations.specs.declared.passed.Passed.{Passed}

-- it is time to look at it again: a second after the last look, as long as nothing was told of it
abbrev pub is_due : ℕ → Passed → Bool
is_due now p = not p.told && nat_le p.next now

-- how many bytes came since it was passed, where nothing was told of it yet
abbrev pub come : ℕ → Passed → Option ℕ
come size p = if not p.told && nat_lt p.size size then Some (size - p.size) else None

-- behind a look that found this size
abbrev pub seen_at : ℕ → ℕ → Passed → Passed
seen_at size now p = record p {
  next = min (now + 1000) (2 ^ 64 - 1);
  told = if not p.told && nat_lt p.size size then true else p.told;
}
