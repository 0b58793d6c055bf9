-- What the names that a listing shows are to an archive run.
use Rattle.std.specs.Prelude.{ℕ, Bool, false, not, List, filter, map, codes, Option, Some, None}
use Rattle.chk_site.specs.Honest.{in_folder}
use Rattle.chk_world.specs.ArchiveRuns.{is_closed}
use Rattle.chk_world.specs.Books.{Book}
pub use Rattle.chk_book.specs.SegmentNames.{counted_only, number_behind, segment_number, names_segment}

abbrev pub unnamed_only : Book → Option ℕ → Bool
unnamed_only b None = false
unnamed_only b (Some n) = not (names_segment b n)

-- the name is that of a segment that the book doesn't name
abbrev pub is_stray : Book → List ℕ → Bool
is_stray b name = unnamed_only b (segment_number name)

-- the files of these segments
abbrev pub strays_in : Book → List (List ℕ) → List (List ℕ)
strays_in b names = map (in_folder (codes "archive")) (filter (is_stray b) names)

-- the files of the done sinks that a listing shows
abbrev pub closed_in : List (List ℕ) → List (List ℕ)
closed_in names = map (in_folder (codes "sinks")) (filter is_closed names)
