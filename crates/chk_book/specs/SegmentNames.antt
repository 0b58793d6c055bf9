-- Which numbers the names of segments have, and which a book names.
use Rattle.std.specs.Prelude.{ℕ, Bool, true, false, nat_eq, List, codes, Option, Some, None}
use Rattle.std.specs.List.{list_any}
use Rattle.chk_bytes.specs.Words.{behind_front}
use Rattle.chk_bytes.specs.Numbers.{plain_number}
use Rattle.chk_bytes.specs.Stems.{is_count}
use Rattle.chk_world.specs.Books.{Segment, Book}
use Rattle.chk_world.specs.Jobs.{all_segments}

-- the number, where it is one of a segment
abbrev pub counted_only : Option ℕ → Option ℕ
counted_only None = None
counted_only (Some n) = elim (is_count n) [ true ↦ Some n | false ↦ None ]

-- the number behind the front
abbrev pub number_behind : Option (List ℕ) → Option ℕ
number_behind None = None
number_behind (Some digits) = counted_only (plain_number digits)

-- the number of the segment that has this name in its folder
abbrev pub segment_number : List ℕ → Option ℕ
segment_number name = number_behind (behind_front (codes "seg.") name)

-- the book names the segment of this number
abbrev pub names_segment : Book → ℕ → Bool
names_segment b n = list_any (λ (g : Segment). nat_eq g.number n) (all_segments b)
