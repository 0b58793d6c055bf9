-- The inspection of an agent by its control port.
use Rattle.std.specs.Prelude.{◌≡◌, ℕ, List, Option, None, Ok}
use Rattle.chk_site.specs.History.{History}
use Rattle.chk_ctl_status.specs.declared.doors.Door.{Door}
use Rattle.chk_ctl_status.specs.Doors.{door_of, ListAsked}
use Rattle.chk_ctl_machine.specs.Deeds.{Told}
use Rattle.chk_ctl_machine.specs.Lending.{Lent}

-- the port at the address is asked for its list, and gives this answer
abbrev pub Answers : List ℕ → Option (List ℕ) → Option History → ℕ → Option History → ℕ → Type 0
Answers address answer from before to now = ListAsked address (Ok answer) from to

-- what that answer is
pub record SeesControl (address : List ℕ) (door : Door) (old new : Told) : Type 0 where
  pub answer : Option (List ℕ)
  pub asked : Lent None (Answers address answer) old new
  pub is : door ≡ door_of answer
