-- What is left behind the first bytes, where more bytes come.
use Rattle.std.proofs.Common.{◌≡◌, ℕ, zero, suc, ◌-◌, ◌≤◌, List, [], ◌∷◌, ◌++◌, length, drop}
use Rattle.std.proofs.Common.{ap, sym, subst, ◌∙◌, arith, length-append}
use Rattle.std.proofs.lemmas.List.{drop_all}
use Rattle.sha2.specs.Hashers.{Holds256}
use Rattle.chk_ctl_sum.specs.declared.rests.Skipping.{Skipping}
use Rattle.chk_ctl_sum.specs.Rests.{HoldsRest}

pub drop_over : (skip : ℕ) (xs ys : List ℕ)
    → drop skip (xs ++ ys) ≡ drop skip xs ++ drop (skip - length xs) ys
drop_over zero xs ys =
    ap (λ (k : ℕ). xs ++ drop k ys) (let z : 0 ≡ 0 - length xs = omega arith in z)
drop_over (suc skip) [] ys =
    ap (λ (k : ℕ). drop k ys) (let z : suc skip ≡ suc skip - 0 = omega arith in z)
drop_over (suc skip) (x ∷ xs) ys =
    drop_over skip xs ys
    ∙ ap (λ (k : ℕ). drop skip xs ++ drop k ys)
    (let z : skip - length xs ≡ suc skip - suc (length xs) = omega arith in z)

pub none_dropped : (skip : ℕ) → drop {A = ℕ} skip [] ≡ []
none_dropped skip = drop_all skip [] (let z : 0 ≤ skip = omega arith in z)

pub begun : (skip : ℕ) (h : Skipping) → h.left ≡ skip → Holds256 h.hasher [] → HoldsRest skip h []
begun skip h is holds = record {
  left = is ∙ (let z : skip ≡ skip - 0 = omega arith in z);
  holds = subst (Holds256 h.hasher) (sym (none_dropped skip)) holds;
}

pub fed : (old new : Skipping) (bytes : List ℕ) → new.left ≡ old.left - length bytes
    → ((m : List ℕ) → Holds256 old.hasher m → Holds256 new.hasher (m ++ drop old.left bytes))
    → (skip : ℕ) (taken : List ℕ) → HoldsRest skip old taken → HoldsRest skip new (taken ++ bytes)
fed old new bytes is update skip taken h =
    let l = h.left in
    let n = length-append taken bytes in
    record {
      left = is ∙ (let z : old.left - length bytes ≡ skip - length (taken ++ bytes) =
          omega (arith, l, n) in z);
      holds = subst (Holds256 new.hasher)
          (ap (λ (k : ℕ). drop skip taken ++ drop k bytes) l ∙ sym (drop_over skip taken bytes))
          (update (drop skip taken) h.holds);
    }
