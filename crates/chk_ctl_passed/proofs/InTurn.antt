-- The names of a listing, in turn.
use Rattle.std.proofs.Common.{◌≡◌, ◌∙◌, ℕ, ◌+◌, ◌<◌, ◌≤◌, suc, List, ◌∷◌, length, drop, get_or}
use Rattle.std.proofs.Common.{refl, sym, ap, subst, arith, Option, Ok}
use Rattle.std.proofs.Math.Seq.{drop-cons}
use Rattle.std.proofs.Math.ListN.{drop_of_length-le}
use Rattle.chk_site.specs.History.{History}
use Rattle.chk_ctl_passed.specs.declared.judging.Verdict.{Verdict}
use Rattle.chk_ctl_passed.specs.Agents.{ByEach, at_end}

pub next_of : (xs : List (List ℕ)) (i : ℕ) (x y : List ℕ) → i < length xs → x ≡ get_or xs i x
    → y ≡ x → drop i xs ≡ y ∷ drop (i + 1) xs
next_of xs i x y low is same =
    drop-cons xs i x low
    ∙ (ap (λ (z : List ℕ). z ∷ drop (suc i) xs) (sym is ∙ sym same)
    ∙ ap (λ (k : ℕ). y ∷ drop k xs) (let e : suc i ≡ i + 1 = omega arith in e))

pub none_left : (path : List ℕ) (xs : List (List ℕ)) (i : ℕ) (verdict : Verdict)
    (now : Option History) → length xs ≤ i
    → ByEach path (Ok verdict) (drop i xs) verdict now now
none_left path xs i verdict now past =
    subst (λ ys. ByEach path (Ok verdict) ys verdict now now)
    (sym (drop_of_length-le xs past)) (at_end refl)
