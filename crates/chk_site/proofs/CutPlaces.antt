-- The places at which a reader may stop.
use Rattle.std.proofs.Common.{◌≡◌, ◌≢◌, ◌⊎◌, inl, inr, ℕ, zero, suc, ◌+◌, ◌-◌, ◌*◌, ◌<◌, ◌≤◌, Bool, true, false, ◌||◌, if◌then◌else◌, List, [], ◌∷◌, ◌++◌, length, drop, get_or, refl, sym, ◌∙◌, ap, subst, append_assoc, arith, length-append, length-drop, get_or-drop}
use Rattle.std.specs.Prelude.{◌↔◌, ◌==◌, nat_le, IsTrue}
use Rattle.std.specs.List.{concat}
use Rattle.std.proofs.lemmas.Bool.{leb-true, le-leb, lt-leb, eqb-true, eq-eqb, ne_eqb, false≢true, cases_eq, cases_lt, and_parts, or_cases, or_left, or_right}
use Rattle.std.proofs.lemmas.Bool.Decides.{nat_tests}
use Rattle.chk_site.specs.Logs.{is_line_cut, is_cut_place, last_cut}
use Rattle.chk_site.specs.CutLaws.{OneChain, CutStays, EachCut, IsLastCut, LastCut}

-- the run behind a byte
abbrev run_behind : ℕ → ℕ → ℕ
run_behind b run = if b == 10 then 0 else if run == 131071 then 0 else run + 1

-- a multiple of 131,072, or the end of a rotated generation
abbrev InChain : Bool → ℕ → ℕ → ℕ → Type 0
InChain closed run d size = ((j : ℕ) × (run + d ≡ 131072 * j)) ⊎ (IsTrue closed × (d ≡ size))

iff_then : {A B C : Type 0} → (A ↔ B) → (B ↔ C) → A ↔ C
iff_then p q = (λ a. q.0 (p.0 a), λ c. p.1 (q.1 c))

-- one byte on
pub cut_suc : (closed : Bool) (run b : ℕ) (bytes : List ℕ) (n : ℕ)
    → is_line_cut closed run (b ∷ bytes) (suc n) ≡ is_line_cut closed (run_behind b run) bytes n
cut_suc closed run b bytes n =
    let first : (suc n == 0) ≡ false = ne_eqb (suc n) 0 (λ e. omega arith) in
    let less : suc n - 1 ≡ n = omega arith in
    rw (first, less) refl

at_end : (closed : Bool) (run : ℕ) → run < 131072 → ((run == 0 || closed) ≡ true) ↔ InChain closed run 0 0
at_end closed run small = (
  λ h. elim (or_cases (run == 0) closed h) [
    | inl e ↦ inl (0, (let z = eqb-true run 0 e in omega arith))
    | inr c ↦ inr (c, refl)
  ],
  λ x. elim x [
    | inl y ↦ or_left (run == 0) closed (eq-eqb run 0 (omega (arith, y.1)))
    | inr y ↦ or_right (run == 0) closed y.0
  ],
)

at_begin : (closed : Bool) (run size : ℕ) → run < 131072 → ((run == 0) ≡ true) ↔ InChain closed run 0 (suc size)
at_begin closed run size small = (
  λ h. inl (0, (let z = eqb-true run 0 h in omega arith)),
  λ x. elim x [
    | inl y ↦ eq-eqb run 0 (omega (arith, y.1))
    | inr y ↦ absurd (omega (arith, y.1))
  ],
)

one_on : (closed : Bool) (run next d size : ℕ) → ((run ≡ 131071) × (next ≡ 0)) ⊎ (next ≡ run + 1)
    → InChain closed next d size ↔ InChain closed run (suc d) (suc size)
one_on closed run next d size (inl e) = (
  λ x. elim x [
    | inl y ↦ inl (y.0 + 1, omega (arith, e.0, e.1, y.1))
    | inr y ↦ inr (y.0, ap suc y.1)
  ],
  λ x. elim x [
    | inl y ↦ inl (y.0 - 1, omega (arith, e.0, e.1, y.1))
    | inr y ↦ inr (y.0, omega (arith, y.1))
  ],
)
one_on closed run next d size (inr e) = (
  λ x. elim x [
    | inl y ↦ inl (y.0, omega (arith, e, y.1))
    | inr y ↦ inr (y.0, ap suc y.1)
  ],
  λ x. elim x [
    | inl y ↦ inl (y.0, omega (arith, e, y.1))
    | inr y ↦ inr (y.0, omega (arith, y.1))
  ],
)

-- the run behind a byte that is no newline
run_goes_on : (run : ℕ) → let next = if run == 131071 then 0 else run + 1 in ((run ≡ 131071) × (next ≡ 0)) ⊎ (next ≡ run + 1)
run_goes_on run = elim (cases_eq run 131071) [
  | inl e ↦ inl (e, (let t : (run == 131071) ≡ true = eq-eqb run 131071 e in rw t refl))
  | inr e ↦ inr (let t : (run == 131071) ≡ false = ne_eqb run 131071 e in rw t refl)
]

run_small : (run : ℕ) → run < 131072 → (if run == 131071 then 0 else run + 1) < 131072
run_small run small = grind (arith, nat_tests)

chain_from : (closed : Bool) (run : ℕ) (bytes : List ℕ) (k d : ℕ) → run < 131072 → k ≤ length bytes
    → ((i : ℕ) → i < k → get_or bytes i 0 ≢ 10) → d ≤ k
    → (is_line_cut closed run bytes d ≡ true) ↔ InChain closed run d (length bytes)
chain_from closed run [] k zero small fits lacks within = at_end closed run small
chain_from closed run [] k (suc d) small fits lacks within = absurd (omega arith)
chain_from closed run (b ∷ bytes) k zero small fits lacks within = at_begin closed run (length bytes) small
chain_from closed run (b ∷ bytes) zero (suc d) small fits lacks within = absurd (omega arith)
chain_from closed run (b ∷ bytes) (suc k) (suc d) small fits lacks within =
    let next = if run == 131071 then 0 else run + 1 in
    let plain : (b == 10) ≡ false = ne_eqb b 10 (lacks 0 (omega arith)) in
    let rest : (is_line_cut closed next bytes d ≡ true) ↔ InChain closed next d (length bytes) =
    chain_from closed next bytes k d (run_small run small) (omega arith) (λ i h. lacks (suc i) (omega arith)) (omega arith) in
    rw (cut_suc closed run b bytes d, plain) (iff_then rest (one_on closed run next d (length bytes) (run_goes_on run)))

-- from a cut place on, the cut places of what follows
cut_on : (closed : Bool) (run : ℕ) (bytes : List ℕ) (p d : ℕ) → p < length bytes → is_line_cut closed run bytes p ≡ true
    → is_line_cut closed run bytes (p + d) ≡ is_line_cut closed 0 (drop p bytes) d
cut_on closed run [] p d inside cut = absurd (omega arith)
cut_on closed run (b ∷ bytes) zero d inside cut =
    let none : run ≡ 0 = eqb-true run 0 cut in
    let same : 0 + d ≡ d = omega arith in
    rw (none, same) refl
cut_on closed run (b ∷ bytes) (suc p) d inside cut =
    let sum : suc p + d ≡ suc (p + d) = omega arith in
    ap (is_line_cut closed run (b ∷ bytes)) sum ∙ cut_suc closed run b bytes (p + d)
    ∙ cut_on closed (run_behind b run) bytes p d (omega arith) (sym (cut_suc closed run b bytes p) ∙ cut)

from_there : (closed : Bool) (bytes : List ℕ) (p d : ℕ) → p ≤ length bytes
    → InChain closed 0 d (length (drop p bytes)) ↔ (((j : ℕ) × (d ≡ 131072 * j)) ⊎ (IsTrue closed × (p + d ≡ length bytes)))
from_there closed bytes p d inside =
    let left : length (drop p bytes) ≡ length bytes - p = length-drop p bytes in (
      λ x. elim x [
        | inl y ↦ inl (y.0, omega (arith, y.1))
        | inr y ↦ inr (y.0, omega (arith, y.1))
      ],
      λ x. elim x [
        | inl y ↦ inl (y.0, omega (arith, y.1))
        | inr y ↦ inr (y.0, omega (arith, y.1))
      ],
    )

pub one_chain : OneChain
one_chain closed bytes p k d cut line within = elim (cases_lt p (length bytes)) [
  | inl inside ↦
      let left : length (drop p bytes) ≡ length bytes - p = length-drop p bytes in
      let there = line.there in
      let rest = chain_from closed 0 (drop p bytes) k d (omega arith) (omega arith)
      (λ i h. subst (λ (b : ℕ). b ≢ 10) (sym (get_or-drop p bytes i 0)) (line.lacks i h)) within in
      rw (cut_on closed 0 bytes p d inside cut) (iff_then rest (from_there closed bytes p d (omega arith)))
  | inr outside ↦
      let there = line.there in
      let same : p ≡ p + d = omega arith in
      (λ h. inl (0, omega arith), λ h. subst (λ (at : ℕ). IsTrue (is_line_cut closed 0 bytes at)) same cut)
]

pub either_stays : (b x y y' : Bool) → (y ≡ true → y' ≡ true) → (if b then x else y) ≡ true → (if b then x else y') ≡ true
either_stays true x y y' stays h = h
either_stays false x y y' stays h = stays h

line_stays : (run : ℕ) (base more : List ℕ) (at : ℕ) → is_line_cut false run base at ≡ true → is_line_cut false run (base ++ more) at ≡ true
line_stays run [] [] at h = h
line_stays run [] (b ∷ more) at h =
    let p = and_parts (at == 0) (run == 0 || false) h in
    let begin : (at == 0) ≡ true = p.0 in
    rw begin (elim (or_cases (run == 0) false p.1) [ inl e ↦ e | inr e ↦ absurd (false≢true e) ])
line_stays run (b ∷ base) more at h =
    either_stays (at == 0) _ _ _ (line_stays (run_behind b run) base more (at - 1)) h

pub cut_stays : CutStays
cut_stays true [] base more at h = line_stays 0 base more at h
cut_stays false [] base more at h =
    let sum : length (base ++ more) ≡ length base + length more = length-append base more in
    let before = leb-true at (length base) h in
    le-leb at (length (base ++ more)) (omega arith)
cut_stays lines (g ∷ gs) base more at h =
    either_stays (nat_le at (length g)) _ _ _ (cut_stays lines gs base more (at - length g)) h

pub each_cut : EachCut
each_cut [] base at = (leb-true at (length base), le-leb at (length base))
each_cut (g ∷ gs) base at =
    let sum : length ((g ++ concat gs) ++ base) ≡ length g + length (concat gs ++ base) =
    ap length (append_assoc g (concat gs) base) ∙ length-append g (concat gs ++ base) in
    elim (cases_lt (length g) at) [
      | inl past ↦
          let later : nat_le at (length g) ≡ false = lt-leb at (length g) past in
          let rest = each_cut gs base (at - length g) in (
            λ h. let le = rest.0 (rw later at h) in omega arith,
            λ h. rw later (rest.1 (omega arith)),
          )
      | inr within ↦
          let here : nat_le at (length g) ≡ true = le-leb at (length g) within in
          (λ h. omega arith, λ h. rw here refl)
    ]

-- the beginning is a cut place
begin_cut : (lines : Bool) (gs : List (List ℕ)) (base : List ℕ) → is_cut_place lines gs base 0 ≡ true
begin_cut true [] [] = refl
begin_cut true [] (b ∷ base) = refl
begin_cut false [] base = le-leb 0 (length base) (omega arith)
begin_cut true ([] ∷ gs) base = refl
begin_cut true ((b ∷ g) ∷ gs) base = let here : nat_le 0 (length (b ∷ g)) ≡ true = le-leb 0 (length (b ∷ g)) (omega arith) in rw here refl
begin_cut false (g ∷ gs) base = let here : nat_le 0 (length g) ≡ true = le-leb 0 (length g) (omega arith) in rw here refl

pub last_is : LastCut
last_is lines gs base zero = record {
  cut = begin_cut lines gs base;
  within = omega arith;
  none_between = λ q above below cut. omega arith;
}
last_is lines gs base (suc n) =
    let by : (b : Bool) → is_cut_place lines gs base (suc n) ≡ b
    → IsLastCut lines gs base (suc n) (elim b [ true ↦ suc n | false ↦ last_cut lines gs base n ]) =
    λ b. elim b as (λ b. is_cut_place lines gs base (suc n) ≡ b
    → IsLastCut lines gs base (suc n) (elim b [ true ↦ suc n | false ↦ last_cut lines gs base n ])) [
      | true ↦ λ e. record { cut = e; within = omega arith; none_between = λ q above below cut. omega arith }
      | false ↦ λ e.
          let earlier = last_is lines gs base n in
          record {
            cut = earlier.cut;
            within = omega (arith, earlier.within);
            none_between = λ q above below cut. elim (cases_eq q (suc n)) [
              | inl same ↦ absurd (false≢true (sym e ∙ subst (λ (at : ℕ). is_cut_place lines gs base at ≡ true) same cut))
              | inr other ↦ earlier.none_between q above (omega arith) cut
            ];
          }
    ] in
    by (is_cut_place lines gs base (suc n)) refl
