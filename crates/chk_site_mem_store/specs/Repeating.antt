-- The takings after which the same message is handed out once more.
use Rattle.std.specs.Prelude.{ℕ, ◌+◌, ◌-◌, ◌^◌, min, Bool, ◌==◌, List, [], ◌∷◌, ◌++◌, bytes_eq, Option, Some, None, if◌then◌else◌}
use Rattle.std.specs.List.{list_any}
use Rattle.chk_site.specs.declared.acts.ActAnswer.{ActAnswer}
use Rattle.chk_site.specs.declared.acts.ActAnswer.TheVariants.{Done}
use Rattle.chk_site.specs.Acts.{Deed, Takes, deed}
use Rattle.chk_site.specs.Messages.{self_address}
use Rattle.chk_site_mem_store.specs.declared.repeats.Repeats.{Repeats}
use Rattle.chk_site_mem_store.specs.Told.{Kept}

-- the script's counts of takings that are repeated, how many were made since it was given, and the numbers of all that are
-- repeated
pub record Repeating : Type 0 where
  pub again : List ℕ
  pub count : ℕ
  pub numbers : List ℕ

-- the stored ones
abbrev pub repeating_of : Repeats → Repeating
repeating_of r = record { again = r.again.items; count = r.count; numbers = r.numbers.items }

-- no taking was made yet, and the script names these
abbrev pub none_made : List ℕ → Repeating
none_made again = record { again = again; count = 0; numbers = [] }

-- no taking was made since this script was given; the numbers stay
abbrev pub recounted : List ℕ → Repeating → Repeating
recounted again r = record { again = again; count = 0; numbers = r.numbers }

-- a sum that stays at the greatest number of 64 bits
abbrev pub capped_sum : ℕ → ℕ → ℕ
capped_sum a b = min (a + b) (2 ^ 64 - 1)

-- the number of a taking at another door than the mailbox
abbrev pub taken_outside : Deed → ActAnswer → Option ℕ
taken_outside (Takes door wait) (Done (bytes ∷ words) number of) = if bytes_eq door self_address then None else Some number
taken_outside call answer = None

-- the same of an own act
abbrev pub own_outside : Kept → Option ℕ
own_outside one = if one.own then taken_outside (deed one.act) one.act.answer else None

-- the numbers, with this one where the script names its count
abbrev pub with_repeated : Bool → ℕ → List ℕ → List ℕ
with_repeated named number numbers = if named then numbers ++ number ∷ [] else numbers

-- after a taking of this number, the count of which is this
abbrev pub counted : ℕ → ℕ → Repeating → Repeating
counted number count r =
    record { again = r.again; count = count; numbers = with_repeated (list_any (λ n. n == count) r.again) number r.numbers }

-- after what may be such a taking
abbrev pub noted : Option ℕ → Repeating → Repeating
noted None r = r
noted (Some number) r = counted number (capped_sum r.count 1) r
