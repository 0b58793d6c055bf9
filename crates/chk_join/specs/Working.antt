-- Which calls the parts of a join make.
use Rattle.std.specs.Prelude.{ℕ, List, codes}
use Rattle.chk_site.specs.Acts.{Deed, Starts, Lists, Removes}
use Rattle.chk_world.specs.Books.{Book}
use Rattle.chk_world.specs.JobSteps.{ReadsFile, WritesTo}
use Rattle.chk_book.specs.Folders.{segment_name}
use Rattle.chk_join.specs.Names.{IsStray}
pub use Rattle.chk_record_index.specs.Faults.{Worked, job_result}

-- it starts
pub data Starting : Deed → Type 0 where
  starts : Starting Starts

-- it lists `joined`, and removes segments there that the book doesn't name
pub data TidiesBy (b : Book) : Deed → Type 0 where
  lists_joined : TidiesBy b (Lists (codes "joined"))
  removes_stray : (w : List ℕ) → IsStray b w → TidiesBy b (Removes w)

-- behind the start: it reads, tidies, and writes the next segment of this book of `joined`
pub data PreparesBy (b : Book) : Deed → Type 0 where
  goes_reading : (call : Deed) → ReadsFile call → PreparesBy b call
  goes_tidying : (call : Deed) → TidiesBy b call → PreparesBy b call
  goes_writing : (call : Deed) → WritesTo (segment_name (codes "joined") b.next) call → PreparesBy b call

-- the start, and what comes behind it
pub data Prepares : Deed → Type 0 where
  first_starts : Prepares Starts
  goes_on : (b : Book) (call : Deed) → PreparesBy b call → Prepares call
