-- Lists in turn, and calls that were done.
use Rattle.std.proofs.Common.{◌≡◌, ◌⊎◌, inl, inr, ℕ, zero, suc, ◌+◌, List, [], ◌∷◌, ◌++◌, length, drop, ap, sym, ◌∙◌, arith, ◌<◌, Ok, Err, Result}
use Rattle.std.proofs.lemmas.List.{drop_more}
use Rattle.std.specs.Prelude.{Contains, slice_index_or}
use Rattle.chk_site.specs.Site.{CauseOf, IsDone}
use Rattle.chk_site.specs.declared.acts.CallFault.{CallFault}
use Rattle.chk_site.specs.declared.acts.CallFault.TheVariants.{Failed, Missing, Exists, Short, NoMemory}
use Rattle.chk_world.proofs.Each.{later_one}

pub from_both : {Y : Type 0} (ys zs : List Y) (y : Y) → Contains (ys ++ zs) y → Contains ys y ⊎ Contains zs y
from_both [] zs y k = inr k
from_both (z ∷ ys) zs y (zero, low, at) = inl (0, omega arith, at)
from_both (z ∷ ys) zs y (suc k, low, at) = elim (from_both ys zs y (k, omega (arith, low), at)) [
  | inl r ↦ inl (later_one z ys y r)
  | inr r ↦ inr r
]

-- the element at a place is the first of those from there on
pub next_is : (names : List (List ℕ)) (i : ℕ) (item name : List ℕ) → i < length names
    → item ≡ slice_index_or names i item → name ≡ item → drop i names ≡ name ∷ drop (i + 1) names
next_is names i item name low is text =
    drop_more names i item low ∙ ap (λ n. n ∷ drop (i + 1) names) (sym is ∙ sym text)

-- a call that was done leaves the count of faults
pub cause_done : (before now : ℕ) (given : Result (Unit {0}) CallFault) → IsDone given
    → CauseOf before now given
    → now ≡ before
cause_done before now (Ok value) is cause = cause
cause_done before now (Err Failed) is cause = absurd is
cause_done before now (Err Missing) is cause = cause
cause_done before now (Err Exists) is cause = cause
cause_done before now (Err (Short size)) is cause = cause
cause_done before now (Err NoMemory) is cause = cause
