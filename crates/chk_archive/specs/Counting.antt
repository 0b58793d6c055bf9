-- What a listing of the sinks shows, counted.
use Rattle.std.specs.Prelude.{◌≡◌, ℕ, List, count_by, find}
use Rattle.chk_world.specs.ArchiveRuns.{is_unclosed, is_closed}
use Rattle.chk_archive.specs.declared.counting.Counted.{Counted}

-- these are the counts of the names, and the first sink under writing
pub record IsCounted (names : List (List ℕ)) (c : Counted) : Type 0 where
  pub unclosed : c.unclosed ≡ count_by is_unclosed names
  pub first : c.first_unclosed ≡ find is_unclosed names
  pub closed : c.closed ≡ count_by is_closed names
