-- Renamed files that are still a log's base file to its readers.
use Rattle.std.specs.Prelude.{ℕ, ◌-◌, ◌==◌, Bool, ◌||◌, nat_le, if◌then◌else◌}
use Rattle.chk_site_rotations.specs.declared.holding.Generation.{Generation}
use Rattle.chk_site_rotations.specs.declared.holding.Holding.{Holding}

-- the file was found renamed at this moment
abbrev pub held_from : Generation → ℕ → Holding
held_from g now = record { suffix = g.suffix; file = g.file; since = now; grown = now; size = g.size }

-- behind a look at which the file had this size
abbrev pub looked : ℕ → ℕ → Holding → Holding
looked size now h = if size == h.size then h else record h { size = size; grown = now }

-- it hasn't grown for three seconds, or was found renamed sixty seconds before
abbrev pub is_over : ℕ → Holding → Bool
is_over now h = nat_le 3000 (now - h.grown) || nat_le 60000 (now - h.since)
