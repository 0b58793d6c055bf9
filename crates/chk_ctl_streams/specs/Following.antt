-- A stream that is looked at again and again.
use Rattle.std.specs.Prelude.{◌≡◌, ℕ, ◌+◌, Bool, true, false, nat_lt, List, [], ◌∷◌, Option}
use Rattle.std.specs.Prelude.{Result, Ok, Err}
use Rattle.chk_site.specs.declared.acts.Call.TheVariants.{Pause}
use Rattle.chk_site.specs.declared.acts.OutsideFault.{OutsideFault}
use Rattle.chk_site.specs.Acts.{Deed, Pauses}
use Rattle.chk_site.specs.History.{History}
use Rattle.chk_site.specs.Runs.{MadeInTurn}
use Rattle.chk_site.specs.Site.{Asked, asked}
use Rattle.chk_world.specs.Books.{Book}
use Rattle.chk_world.specs.Sight.{job}
use Rattle.chk_record_index.specs.declared.fault.JobFault.{JobFault}
use Rattle.chk_book.specs.Books.{end_in}
use Rattle.chk_ctl_cat.specs.declared.course.Course.{Course}
use Rattle.chk_ctl_cat.specs.declared.fault.LookFault.{LookFault}
use Rattle.chk_ctl_cat.specs.declared.stream.Came.{Came}
use Rattle.chk_ctl_cat.specs.declared.stream.Came.TheVariants.{Whole, Short}
use Rattle.chk_ctl_cat.specs.Courses.{stream_of}
use Rattle.chk_ctl_cat.specs.Faults.{look_fault}
use Rattle.chk_ctl_cat.specs.Loading.{BookFound}
use Rattle.chk_ctl_cat.specs.Looking.{LooksOrSays}
use Rattle.chk_ctl_cat.specs.Streams.{look_of}
use Rattle.chk_ctl_streams.specs.Going.{going_on}
use Rattle.chk_ctl_streams.specs.Newest.{PrintsNews}

-- the calls: those of a look, and waits
pub data LooksAgain : Deed → Type 0 where
  looks_once : (call : Deed) → LooksOrSays call → LooksAgain call
  waits : (ms : ℕ) → LooksAgain (Pauses ms)

-- the call that waits for the next look
abbrev pub waiting : List Asked
waiting = asked job Pause [] 5000 0 ∷ []

-- what follows a read of this book: where it has more of the stream, that is printed on, from the
-- offset on that was come to; else nothing is done
pub data GoesPast (folder : List ℕ) (most books : ℕ) (b : Book) (c : Course)
    : Course → Result Came LookFault → Option History → Option History → Type 0 where
  nothing_new : {now : Option History} → nat_lt c.begin (end_in 0 b.ends (stream_of c)) ≡ false
      → GoesPast folder most books b c c (Ok Whole) now now
  something_new : {d : Course} {result : Result Came LookFault} {old new : Option History}
      → nat_lt c.begin (end_in 0 b.ends (stream_of c)) ≡ true
      → PrintsNews folder most books b c d result old new
      → GoesPast folder most books b c (going_on d) result old new

-- One look: the folder's book is read, and what follows; or it can't be read.
pub data Looks (folder : List ℕ) (most books : ℕ) (c : Course)
    : Course → Result Came LookFault → Option History → Option History → Type 0 where
  unread : {old new : Option History} (fault : JobFault) → BookFound folder (Err fault) old new
      → Looks folder most books c c (Err (look_of fault)) old new
  read : {d : Course} {result : Result Came LookFault} {old mid new : Option History} (b : Book)
      → BookFound folder (Ok b) old mid → GoesPast folder most books b c d result mid new
      → Looks folder most books c d result old new

-- after such a look there is a further one
abbrev pub IsFurther : Came → Type 0
IsFurther Short = ⊥
IsFurther came = Unit {0}

-- whether it is short
abbrev pub HasShort : Bool → Came → Type 0
HasShort true came = came ≡ Short
HasShort false came = IsFurther came

-- such a look is the last one
abbrev pub IsLastLook : Result Came LookFault → Type 0
IsLastLook (Ok Short) = Unit {0}
IsLastLook (Ok came) = ⊥
IsLastLook (Err fault) = Unit {0}

-- what came of a look, where a wait follows
abbrev pub after_wait : Came → Result (Unit {0}) OutsideFault → Result Came LookFault
after_wait came (Ok value) = Ok came
after_wait came (Err fault) = Err (look_fault fault)

-- a wait follows, but after a look that is short
pub data Waits (came : Came) : Result Came LookFault → Option History → Option History
    → Type 0 where
  no_wait : {now : Option History} → came ≡ Short → Waits came (Ok came) now now
  waited_on : {given : Result (Unit {0}) OutsideFault} {old new : Option History}
      → IsFurther came → MadeInTurn waiting given old new
      → Waits came (after_wait came given) old new

-- a look, and where it isn't refused or short the wait
pub data Turns (folder : List ℕ) (most books : ℕ) (c : Course)
    : Course → Result Came LookFault → Option History → Option History → Type 0 where
  refused : {d : Course} {fault : LookFault} {old new : Option History}
      → Looks folder most books c d (Err fault) old new
      → Turns folder most books c d (Err fault) old new
  looked : {d : Course} {came : Came} {result : Result Came LookFault}
      {old mid new : Option History}
      → Looks folder most books c d (Ok came) old mid → Waits came result mid new
      → Turns folder most books c d result old new

-- So many turns at most, one after the other. One that is short or refused is the last.
pub data Follows (folder : List ℕ) (most books : ℕ)
    : ℕ → Course → Course → Result Came LookFault → Option History → Option History → Type 0 where
  over : {looks : ℕ} {c : Course} {now : Option History} → looks ≡ 0
      → Follows folder most books looks c c (Ok Whole) now now
  last_turn : {looks : ℕ} (left : ℕ) {c d : Course} {result : Result Came LookFault}
      {old new : Option History} → looks ≡ left + 1
      → Turns folder most books c d result old new → IsLastLook result
      → Follows folder most books looks c d result old new
  turned : {looks : ℕ} (left : ℕ) {c d e : Course} {came : Came} {result : Result Came LookFault}
      {old mid new : Option History}
      → looks ≡ left + 1 → Turns folder most books c d (Ok came) old mid → IsFurther came
      → Follows folder most books left d e result mid new
      → Follows folder most books looks c e result old new
