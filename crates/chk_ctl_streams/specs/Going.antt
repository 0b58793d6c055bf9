-- A stream that is printed on from book to book.
use Rattle.std.specs.Prelude.{◌≡◌, ℕ, ◌+◌, ◌≤◌, max, Bool, true, false, List, Option, Result}
use Rattle.std.specs.Prelude.{Err}
use Rattle.chk_site.specs.History.{History}
use Rattle.chk_ctl_cat.specs.declared.course.Course.{Course}
use Rattle.chk_ctl_cat.specs.declared.fault.LookFault.{LookFault}
use Rattle.chk_ctl_cat.specs.declared.fault.LookFault.TheVariants.{Gone}
use Rattle.chk_ctl_cat.specs.declared.stream.Came.{Came}
use Rattle.chk_ctl_cat.specs.Streams.{Stage}

-- the course that wants what this one hasn't come to
abbrev pub going_on : Course → Course
going_on c = record c { begin = max c.begin c.reached }

-- whether a segment that the book named wasn't there
abbrev pub HasGone : Bool → Result Came LookFault → Type 0
HasGone true (Err (Gone name)) = Unit {0}
HasGone true result = ⊥
HasGone false (Err (Gone name)) = ⊥
HasGone false result = Unit {0}

-- whether it is the same one that wasn't there before
abbrev pub IsSameLoss : Bool → Result Came LookFault → Result Came LookFault → Type 0
IsSameLoss true before result = result ≡ before
IsSameLoss false before result = result ≡ before → ⊥

-- The stream was printed by one book, and by so many more, one after the other, each from the
-- offset on that the printing before it came to. Each but the last one named a segment that
-- wasn't there, and not the one of the book before.
pub data Goes (folder : List ℕ) (most : ℕ) : ℕ → Course → Course → Result Came LookFault
    → Option History → Option History → Type 0 where
  first : {c d : Course} {result : Result Came LookFault} {old new : Option History}
      → Stage folder most c d result old new → Goes folder most 0 c d result old new
  next : {more : ℕ} {c d e : Course} {before result : Result Came LookFault}
      {old mid new : Option History}
      → Goes folder most more c d before old mid → HasGone true before
      → Stage folder most (going_on d) e result mid new
      → IsSameLoss false before result → Goes folder most (more + 1) c e result old new

-- The same, of at most so many books more. `Gone` comes where two books in turn name one segment
-- that isn't there, or where no book is left.
pub data GoesOn (folder : List ℕ) (most books : ℕ) (c : Course)
    : Course → Result Came LookFault → Option History → Option History → Type 0 where
  came : (more : ℕ) {d : Course} {result : Result Came LookFault} {old new : Option History}
      → more ≤ books
      → Goes folder most more c d result old new → HasGone false result
      → GoesOn folder most books c d result old new
  lost : (more : ℕ) {d e : Course} {result : Result Came LookFault}
      {old mid new : Option History} → more + 1 ≤ books
      → Goes folder most more c d result old mid → HasGone true result
      → Stage folder most (going_on d) e result mid new
      → GoesOn folder most books c e result old new
  no_more : {d : Course} {result : Result Came LookFault} {old new : Option History}
      → Goes folder most books c d result old new → HasGone true result
      → GoesOn folder most books c d result old new
