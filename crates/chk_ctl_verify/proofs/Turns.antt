-- Files that are checked in turn.
use Rattle.std.proofs.Common.{◌≡◌, ◌∙◌, ◌+◌, ◌<◌, ◌++◌, ◌∷◌, ◌||◌, ℕ, suc, Bool, List, [], Option}
use Rattle.std.proofs.Common.{Ok, Err, Result, sym, subst, ap, length, take, drop, get_or}
use Rattle.std.proofs.Math.Seq.{drop-cons}
use Rattle.std.proofs.lemmas.List.{take_more, take-append-drop}
use Rattle.chk_site.specs.declared.acts.OutsideFault.{OutsideFault}
use Rattle.chk_site.specs.History.{History}
use Rattle.chk_ctl_verify.specs.Walks.{EachChecked, and_this, up_to_this}

-- one more of a list
pub each_next : {X : Type 0}
    {Checked : X → Result Bool OutsideFault → Option History → Option History → Type 0}
    (xs : List X) (i : ℕ) (d x : X) (was is all : Bool) {old mid new : Option History}
    → i < length xs → x ≡ get_or xs i d → all ≡ (was || is)
    → EachChecked Checked (take i xs) (Ok was) old mid → Checked x (Ok is) mid new
    → EachChecked Checked (take (i + 1) xs) (Ok all) old new
each_next {X = X} {Checked = Checked} xs i d x was is all {old = old} {new = new} low same joined
    so this =
    subst (λ (ys : List X). EachChecked Checked ys (Ok all) old new)
    (sym (take_more xs i d low ∙ ap (λ (y : X). take i xs ++ y ∷ []) (sym same)))
    (subst (λ (b : Bool). EachChecked Checked (take i xs ++ x ∷ []) (Ok b) old new) (sym joined)
    (and_this so this))

-- the one of a list at which the work ended
pub each_stopped : {X : Type 0}
    {Checked : X → Result Bool OutsideFault → Option History → Option History → Type 0}
    (xs : List X) (i : ℕ) (d x : X) (was : Bool) (fault : OutsideFault)
    {old mid new : Option History} → i < length xs → x ≡ get_or xs i d
    → EachChecked Checked (take i xs) (Ok was) old mid → Checked x (Err fault) mid new
    → EachChecked Checked xs (Err fault) old new
each_stopped {X = X} {Checked = Checked} xs i d x was fault {old = old} {new = new} low same so
    this =
    let rest : x ∷ drop (suc i) xs ≡ drop i xs =
    ap (λ (y : X). y ∷ drop (suc i) xs) same ∙ sym (drop-cons xs i d low) in
    subst (λ (ys : List X). EachChecked Checked ys (Err fault) old new)
    (ap (λ (ys : List X). take i xs ++ ys) rest ∙ take-append-drop i xs)
    (up_to_this (drop (suc i) xs) so this)
