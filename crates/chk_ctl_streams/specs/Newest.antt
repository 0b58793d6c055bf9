-- A stream that is printed on from the newest segments alone.
use Rattle.std.specs.Prelude.{ℕ, ◌≡◌, ◌≤◌, ◌==◌, Bool, true, false, List, drop, Option, Result, Ok, Err}
use Rattle.chk_site.specs.History.{History}
use Rattle.chk_site.specs.Site.{Adds}
use Rattle.chk_world.specs.Books.{Book, Segment}
use Rattle.chk_book.specs.Books.{end_in}
use Rattle.chk_ctl_cat.specs.declared.course.Course.{Course}
use Rattle.chk_ctl_cat.specs.declared.fault.LookFault.{LookFault}
use Rattle.chk_ctl_cat.specs.declared.fault.LookFault.TheVariants.{Outside, Damaged, Gone, NoMemory}
use Rattle.chk_ctl_cat.specs.declared.stream.Came.{Came}
use Rattle.chk_ctl_cat.specs.declared.stream.Came.TheVariants.{Whole}
use Rattle.chk_ctl_cat.specs.Archives.{names_of, PrintedAll}
use Rattle.chk_ctl_cat.specs.Courses.{stream_of, KeepsCourse}
use Rattle.chk_ctl_cat.specs.Looking.{Sees}
use Rattle.chk_ctl_streams.specs.Going.{going_on, GoesOn}

-- the course that came to this offset of its stream, which ends there
abbrev pub course_at : Course → ℕ → ℕ → Course
course_at c from end = record c { end = end; reached = from }

-- whether all was printed up to the stream's end; a segment that is damaged or isn't there is left
-- to those who go over all segments
abbrev pub newest_result : Course → Result (Unit {0}) LookFault → Result Bool LookFault
newest_result d (Ok value) = Ok (d.reached == d.end)
newest_result d (Err (Damaged name at)) = Ok false
newest_result d (Err (Gone name)) = Ok false
newest_result d (Err (Outside call)) = Err (Outside call)
newest_result d (Err NoMemory) = Err NoMemory

-- what these segments have of the stream is printed, as records that go on from this offset
pub record PrintsNewest (folder : List ℕ) (most : ℕ) (gs : List Segment) (end from : ℕ)
    (c d : Course) (result : Result Bool LookFault) (before after : Option History) : Type 0 where
  pub given : Result (Unit {0}) LookFault
  pub is : result ≡ newest_result d given
  pub keeps : KeepsCourse (course_at c from end) d
  pub printed : Adds before after (Sees (PrintedAll most (names_of folder gs) (course_at c from end)
      d given))

-- they are printed up to the stream's end; or what is wanted from there on, to which they led, is
-- printed by the book that is read then
pub data PrintsRest (folder : List ℕ) (most books : ℕ) (gs : List Segment) (end from : ℕ)
    (c : Course) : Course → Result Came LookFault → Option History → Option History → Type 0 where
  to_end : {d : Course} {old new : Option History}
      → PrintsNewest folder most gs end from c d (Ok true) old new
      → PrintsRest folder most books gs end from c d (Ok Whole) old new
  refused : {d : Course} {fault : LookFault} {old new : Option History}
      → PrintsNewest folder most gs end from c d (Err fault) old new
      → PrintsRest folder most books gs end from c d (Err fault) old new
  and_on : {d e : Course} {result : Result Came LookFault} {old mid new : Option History}
      → PrintsNewest folder most gs end from c d (Ok false) old mid
      → GoesOn folder most books (going_on d) e result mid new
      → PrintsRest folder most books gs end from c e result old new

-- The stream is printed on from the newest of the book's segments, all but so many of the oldest,
-- in which its records go on from an offset that isn't past what is wanted; or from all.
pub data PrintsNews (folder : List ℕ) (most books : ℕ) (b : Book) (c : Course)
    : Course → Result Came LookFault → Option History → Option History → Type 0 where
  all : {d : Course} {result : Result Came LookFault} {old new : Option History}
      → GoesOn folder most books c d result old new
      → PrintsNews folder most books b c d result old new
  newest : {d : Course} {result : Result Came LookFault} {old new : Option History}
      (oldest from : ℕ) → from ≤ c.begin
      → PrintsRest folder most books (drop oldest b.segments) (end_in 0 b.ends (stream_of c)) from
      c d result old new
      → PrintsNews folder most books b c d result old new
  unmade : {now : Option History} → PrintsNews folder most books b c c (Err NoMemory) now now
