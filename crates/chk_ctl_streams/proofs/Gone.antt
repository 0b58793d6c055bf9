-- A stream that is printed on, where no book is left, and where one names a segment that isn't
-- there.
use Rattle.std.proofs.Common.{◌≡◌, ℕ, ◌+◌, ◌≤◌, true, List, Option, Ok, Err, Result, sym, subst}
use Rattle.std.proofs.Common.{arith}
use Rattle.chk_site.specs.History.{History}
use Rattle.chk_ctl_cat.specs.declared.course.Course.{Course}
use Rattle.chk_ctl_cat.specs.declared.fault.LookFault.{LookFault}
use Rattle.chk_ctl_cat.specs.declared.fault.LookFault.TheVariants.{Outside, Damaged, Gone, NoMemory}
use Rattle.chk_ctl_cat.specs.declared.stream.Came.{Came}
use Rattle.chk_ctl_cat.specs.Faults.{LookCause}
use Rattle.chk_ctl_cat.specs.Streams.{Stage}
use Rattle.chk_ctl_streams.specs.Going.{going_on, Goes, GoesOn, HasGone, came, lost}
use Rattle.chk_ctl_streams.specs.Going.{no_more}

-- a segment that isn't there isn't a call that failed
pub gone_same : (given : Result Came LookFault) (before now : ℕ) → HasGone true given
    → LookCause before now given
    → now ≡ before
gone_same (Ok value) before now has cause = absurd has
gone_same (Err (Outside call)) before now has cause = absurd has
gone_same (Err (Damaged name at)) before now has cause = absurd has
gone_same (Err (Gone name)) before now has cause = cause
gone_same (Err NoMemory) before now has cause = absurd has

module _ (folder : List ℕ) (most books : ℕ) (c : Course) {old : Option History} where
  -- no book is left
  pub none_left : (d : Course) (result : Result Came LookFault) {new : Option History}
      → Goes folder most books c d result old new → GoesOn folder most books c d result old new
  none_left d (Ok value) goes = came books (omega arith) goes tt
  none_left d (Err (Outside call)) goes = came books (omega arith) goes tt
  none_left d (Err (Damaged name at)) goes = came books (omega arith) goes tt
  none_left d (Err (Gone name)) goes = no_more goes tt
  none_left d (Err NoMemory) goes = came books (omega arith) goes tt

  -- two books in turn name a segment that isn't there
  pub lost_twice : (more : ℕ) (d e : Course) (before result : Result Came LookFault)
      {mid new : Option History}
      → more + 1 ≤ books → result ≡ before → Goes folder most more c d before old mid
      → HasGone true before
      → Stage folder most (going_on d) e result mid new
      → GoesOn folder most books c e result old new
  lost_twice more d e before result {mid = mid} low same goes has stage =
      lost more low (subst (λ r. Goes folder most more c d r old mid) (sym same) goes)
      (subst (HasGone true) (sym same) has) stage
