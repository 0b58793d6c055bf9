-- What the names that a listing of `joined` shows are to a join.
use Rattle.std.specs.Prelude.{◌≡◌, ℕ, Bool, false, Option, Some, None, if◌then◌else◌, IsTrue, List}
use Rattle.std.specs.Prelude.{[], ◌∷◌, ◌++◌, codes}
use Rattle.chk_bytes.specs.Stems.{is_count}
use Rattle.chk_world.specs.Books.{Book}
use Rattle.chk_book.specs.Folders.{segment_name}
pub use Rattle.chk_book.specs.SegmentNames.{counted_only, number_behind, segment_number}
pub use Rattle.chk_book.specs.SegmentNames.{names_segment}

-- where the book doesn't name it
abbrev pub unnamed_only : Book → Option ℕ → Option ℕ
unnamed_only b None = None
unnamed_only b (Some n) = if names_segment b n then None else Some n

-- it can be a segment's number, and the book doesn't name that segment
abbrev pub IsStrayNumber : Book → ℕ → Type 0
IsStrayNumber b n = IsTrue (is_count n) × (names_segment b n ≡ false)

-- the files with that of this number, where there is one
abbrev pub AddsStray : Book → Option ℕ → List (List ℕ) → List (List ℕ) → Type 0
AddsStray b None old new = new ≡ old
AddsStray b (Some n) old new = IsStrayNumber b n × (new ≡ old ++ segment_name (codes "joined") n ∷ [])

-- the file of such a segment of `joined`
abbrev pub IsStray : Book → List ℕ → Type 0
IsStray b w = (n : ℕ) × IsStrayNumber b n × (w ≡ segment_name (codes "joined") n)
