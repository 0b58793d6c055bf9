-- The entry of a collector in a sieve.
use Rattle.std.proofs.Common.{◌≡◌, ℕ, zero, suc, ◌<◌, Bool, true, false, List, [], ◌∷◌, ◌++◌, length, get_or, refl, sym, ap, ◌∙◌, arith}
use Rattle.std.proofs.Math.ListN.{set}
use Rattle.std.proofs.lemmas.Bool.{cond-true, cond-false}
use Rattle.chk_tee_sender.specs.Sieves.{same_collector, later, greater, is_fresh, asked_for, IsFirst, HasNone}
use Rattle.chk_tee_sender.specs.declared.sieve.Mark.{Mark}

pub fresh_first : (marks : List Mark) (p : Mark) (i : ℕ) → IsFirst marks p i
    → (is_fresh marks p ≡ later (get_or marks i p) p) × (asked_for marks p ≡ set marks i (greater (get_or marks i p) p))
fresh_first [] p i first = absurd (omega (arith, first.within))
fresh_first (m ∷ ms) p zero first = (cond-true _ _ _ first.same, cond-true _ _ _ first.same)
fresh_first (m ∷ ms) p (suc i) first =
    let other : same_collector m p ≡ false = first.before 0 (omega arith) in
    let rest = fresh_first ms p i record {
      within = omega (arith, first.within);
      same = first.same;
      before = λ k below. first.before (suc k) (omega arith);
    } in
    (cond-false _ _ _ other ∙ rest.0, cond-false _ _ _ other ∙ ap (λ l. m ∷ l) rest.1)

pub fresh_none : (marks : List Mark) (p : Mark) → HasNone marks p
    → (is_fresh marks p ≡ true) × (asked_for marks p ≡ marks ++ p ∷ [])
fresh_none [] p none = (refl, refl)
fresh_none (m ∷ ms) p none =
    let other : same_collector m p ≡ false = none 0 (omega arith) in
    let rest = fresh_none ms p (λ k below. none (suc k) (omega arith)) in
    (cond-false _ _ _ other ∙ rest.0, cond-false _ _ _ other ∙ ap (λ l. m ∷ l) rest.1)

get_or-default : (xs : List Mark) (i : ℕ) (a b : Mark) → i < length xs → get_or xs i a ≡ get_or xs i b
get_or-default [] i a b within = absurd (omega arith)
get_or-default (x ∷ xs) zero a b within = refl
get_or-default (x ∷ xs) (suc i) a b within = get_or-default xs i a b (omega arith)

pub raised_fresh : (marks : List Mark) (p : Mark) (i : ℕ) (m : Mark) (fresh : Bool) → IsFirst marks p i → m ≡ get_or marks i m
    → fresh ≡ later m p → fresh ≡ is_fresh marks p
raised_fresh marks p i m fresh first is made =
    let same : m ≡ get_or marks i p = is ∙ get_or-default marks i m p first.within in
    made ∙ (ap (λ (n : Mark). later n p) same ∙ sym (fresh_first marks p i first).0)

pub raised_asked : (marks : List Mark) (p : Mark) (i : ℕ) (m new : Mark) → IsFirst marks p i → m ≡ get_or marks i m
    → new ≡ greater m p → set marks i new ≡ asked_for marks p
raised_asked marks p i m new first is made =
    let same : m ≡ get_or marks i p = is ∙ get_or-default marks i m p first.within in
    ap (λ (n : Mark). set marks i n) (made ∙ ap (λ (n : Mark). greater n p) same) ∙ sym (fresh_first marks p i first).1
