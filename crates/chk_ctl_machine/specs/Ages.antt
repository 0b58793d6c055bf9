-- How old a file is.
use Rattle.std.specs.Prelude.{◌≡◌, ℕ, List, Option, None}
use Rattle.chk_ctl_machine.specs.Deeds.{after, AsksAge, Told}

-- the machine is asked for it; or there was no memory for the path
pub data AsksAgeOf (path : List ℕ) : Option ℕ → Told → Told → Type 0 where
  unasked : {now : Told} → AsksAgeOf path None now now
  asked : {age : Option ℕ} {old new : Told} → new ≡ after (AsksAge path age) old
      → AsksAgeOf path age old new
