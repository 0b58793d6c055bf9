-- Logs in byte order of their paths.
use Rattle.std.proofs.Common.{◌≡◌, inl, inr, ℕ, zero, suc, ◌+◌, ◌<◌, ◌≤◌, Bool, true, false, ◌&&◌, ◌||◌, List, [], ◌∷◌, length, get_or, Some, refl, sym, subst, ap, ap₂, ◌∙◌, arith, true≢false}
use Rattle.std.specs.Prelude.{insert, nat_lt, string_bytes, ◌==◌, ◌⊎◌}
use Rattle.std.specs.List.Sorted.{IsPartitionedBy}
use Rattle.std.proofs.lemmas.Bool.{and_cases, cases_eq, cases_lt, eq-eqb, ltb-false, or_parts}
use Rattle.std.proofs.lemmas.List.{get_or_default}
use Rattle.std.proofs.lemmas.List.Edits.{get_or-insert_above, get_or-insert_at, get_or-insert_below, length-insert}
use Rattle.chk_bytes.specs.Words.{text_lt}
use Rattle.chk_site_rotations.specs.declared.log.Log.{Log}
use Rattle.chk_site_rotations.specs.Logs.{AreRising, IsAt, IsPathEnd}

-- ---- texts in order

text_lt_trans : (a b c : List ℕ) → text_lt a b ≡ true → text_lt b c ≡ true → text_lt a c ≡ true
text_lt_trans [] [] c p q = absurd (true≢false (sym p))
text_lt_trans [] (x ∷ b) [] p q = absurd (true≢false (sym q))
text_lt_trans [] (x ∷ b) (y ∷ c) p q = refl
text_lt_trans (x ∷ a) [] c p q = absurd (true≢false (sym p))
text_lt_trans (x ∷ a) (y ∷ b) [] p q = absurd (true≢false (sym q))
text_lt_trans (x ∷ a) (y ∷ b) (z ∷ c) p q = go (text_lt_trans a b c)
  where
    go : (text_lt a b ≡ true → text_lt b c ≡ true → text_lt a c ≡ true) → (nat_lt x z || (x == z && text_lt a c)) ≡ true
    go rest = grind (arith, p, q, rest)

text_lt_self : (a : List ℕ) → text_lt a a ≡ false
text_lt_self [] = refl
text_lt_self (x ∷ a) = go (text_lt_self a)
  where
    go : text_lt a a ≡ false → (nat_lt x x || (x == x && text_lt a a)) ≡ false
    go rest = grind (arith, rest)

first_below : (x y : ℕ) (t : Bool) → (nat_lt x y || (x == y && t)) ≡ false → (y ≤ x) × (x ≡ y → t ≡ false)
first_below x y t e =
    let p = or_parts (nat_lt x y) (x == y && t) e in (
      ltb-false x y p.0,
      λ same. elim (and_cases (x == y) t p.1) [
        | inl n0 ↦ absurd (true≢false (sym (eq-eqb x y same) ∙ n0))
        | inr k ↦ k
      ],
    )

text_alike : (a b : List ℕ) → text_lt a b ≡ false → text_lt b a ≡ false → a ≡ b
text_alike [] [] p q = refl
text_alike [] (y ∷ vs) p q = absurd (true≢false p)
text_alike (x ∷ us) [] p q = absurd (true≢false q)
text_alike (x ∷ us) (y ∷ vs) p q =
    let u = first_below x y (text_lt us vs) p in
    let v = first_below y x (text_lt vs us) q in
    let a1 = u.0 in let a2 = v.0 in
    let same : x ≡ y = omega (arith, a1, a2) in
    ap (λ n. n ∷ us) same ∙ ap (λ l. y ∷ l) (text_alike us vs (u.1 same) (v.1 (sym same)))

other_above : (a b : List ℕ) → text_lt a b ≡ false → (a ≡ b → ⊥) → text_lt b a ≡ true
other_above a b below other = go (text_lt b a) refl
  where
    go : (t : Bool) → text_lt b a ≡ t → text_lt b a ≡ true
    go true e = e
    go false e = absurd (other (text_alike a b below e))

not_self : (a : List ℕ) → text_lt a a ≡ true → ⊥
not_self a e = true≢false (sym e ∙ text_lt_self a)

-- ---- paths in order

abbrev path_at : List Log → ℕ → Log → List ℕ
path_at logs k d = string_bytes (get_or logs k d).path

not_both : (a b : ℕ) → a < b → b ≤ a → ⊥
not_both a b lt le = omega (arith, lt, le)

-- those that come before a text stand first
pub lower_first : (logs : List Log) (path : List ℕ) → AreRising logs
    → IsPartitionedBy (λ (log : Log). text_lt (string_bytes log.path) path) logs
lower_first logs path rising = λ i j d le within h. go i j d within h (cases_eq i j) le
  where
    go : (i j : ℕ) (d : Log) → j < length logs → text_lt (path_at logs j d) path ≡ true → (i ≡ j) ⊎ (i ≡ j → ⊥) → i ≤ j
        → text_lt (path_at logs i d) path ≡ true
    go i j d within h (inl same) le = subst (λ k. text_lt (path_at logs k d) path ≡ true) (sym same) h
    go i j d within h (inr other) le =
        text_lt_trans (path_at logs i d) (path_at logs j d) path (rising i j d (strict (cases_lt i j)) within) h
      where
        strict : (i < j) ⊎ (j ≤ i) → i < j
        strict (inl lt) = lt
        strict (inr ge) = absurd (other (omega (arith, le, ge)))

-- a log that is known stands where the lower ones end
pub known_place : (logs : List Log) (path : List ℕ) (place i : ℕ) → AreRising logs → IsPathEnd logs path place
    → IsAt logs i path → i ≡ place
known_place [] path place i rising end at = absurd (not_both i 0 at.0 (omega arith))
known_place (d ∷ logs) path place i rising end at = elim (cases_eq i place) [
  | inl same ↦ same
  | inr other ↦ absurd (wrong other)
]
  where
    wrong : (i ≡ place → ⊥) → ⊥
    wrong other = elim (cases_lt i place) [
      | inl low ↦ not_self path (subst (λ p. text_lt p path ≡ true) (at.1 d) (end.lower i d (omega arith) low))
      | inr high ↦
          let above : place < i = elim (cases_lt place i) [
            | inl lt ↦ lt
            | inr le ↦ absurd (other (omega (arith, high, le)))
          ] in
          let between = subst (λ p. text_lt (path_at (d ∷ logs) place d) p ≡ true) (at.1 d)
          (rising place i d above at.0) in
          let there = at.0 in
          true≢false (sym between ∙ end.others place d (omega arith) (omega (arith, above, there)))
    ]

-- a path that isn't there comes before those that aren't lower
above : (logs : List Log) (path : List ℕ) (place k : ℕ) (d : Log) → AreRising logs → IsPathEnd logs path place
    → (IsAt logs place path → ⊥) → place ≤ k → k < length logs → text_lt path (path_at logs k d) ≡ true
above logs path place k d rising end absent le within = go (cases_lt place k)
  where
    here : place < length logs → text_lt path (path_at logs place d) ≡ true
    here lt = other_above (path_at logs place d) path (end.others place d (omega arith) lt)
        (λ same. absent (lt, λ e. ap (λ (x : Log). string_bytes x.path) (get_or_default logs place e d lt) ∙ same))

    go : (place < k) ⊎ (k ≤ place) → text_lt path (path_at logs k d) ≡ true
    go (inl lt) = text_lt_trans path (path_at logs place d) (path_at logs k d) (here (omega (arith, lt, within)))
        (rising place k d lt within)
    go (inr ge) =
        let same : place ≡ k = omega (arith, le, ge) in
        subst (λ n. text_lt path (path_at logs n d) ≡ true) same (here (omega (arith, ge, within, le)))

-- with one more, put where the lower ones end, they rise
pub rising_more : (logs new : List Log) (path : List ℕ) (place : ℕ) (log : Log) → AreRising logs
    → IsPathEnd logs path place → (IsAt logs place path → ⊥) → place ≤ length logs → new ≡ insert logs place log
    → string_bytes log.path ≡ path → AreRising new
rising_more logs new path place log rising end absent fits put named =
    subst AreRising (sym put) (λ i j d lt within. order i j d lt
    (shorter j within) (cases_lt i place) (cases_lt j place))
  where
    P : ℕ → ℕ → Log → Type 0
    P i j d = text_lt (path_at (insert logs place log) i d) (path_at (insert logs place log) j d) ≡ true

    shorter : (j : ℕ) → j < length (insert logs place log) → j < suc (length logs)
    shorter j within = let size = length-insert logs place log fits in omega (arith, within, size)

    at_below : (k : ℕ) (d : Log) → k < place → path_at (insert logs place log) k d ≡ path_at logs k d
    at_below k d lt = ap (λ (x : Log). string_bytes x.path) (get_or-insert_below logs place log d k lt fits)

    at_here : (d : Log) → path_at (insert logs place log) place d ≡ path
    at_here d = ap (λ (x : Log). string_bytes x.path) (get_or-insert_at logs place log d fits) ∙ named

    one_more : (n : ℕ) → n + 1 ≡ suc n
    one_more n = omega arith

    at_above : (k : ℕ) (d : Log) → place ≤ k → path_at (insert logs place log) (suc k) d ≡ path_at logs k d
    at_above k d le = subst (λ n. path_at (insert logs place log) n d ≡ path_at logs k d) (one_more k)
        (ap (λ (x : Log). string_bytes x.path) (get_or-insert_above logs place log d k le fits))

    by : {a b c e : List ℕ} → a ≡ c → b ≡ e → text_lt c e ≡ true → text_lt a b ≡ true
    by p q h = ap₂ text_lt p q ∙ h

    -- from the new one on
    upper : (i j : ℕ) (d : Log) → i < suc j → j < length logs → place ≤ i → place ≤ j → (i ≤ place) ⊎ (place < i) → P i (suc j) d
    upper i j d lt within lo hi (inl le) =
        let same : i ≡ place = omega (arith, lo, le) in
        by (subst (λ n. path_at (insert logs place log) n d ≡ path) (sym same) (at_here d)) (at_above j d hi)
        (above logs path place j d rising end absent hi within)
    upper zero j d lt within lo hi (inr gt) = absurd (not_both place 0 gt (omega arith))
    upper (suc i) j d lt within lo hi (inr gt) =
        by (at_above i d (omega (arith, gt))) (at_above j d hi) (rising i j d (omega (arith, lt)) within)

    split : (i : ℕ) → (i ≤ place) ⊎ (place < i)
    split i = elim (cases_lt place i) [
      | inl gt ↦ inr gt
      | inr le ↦ inl le
    ]

    order : (i j : ℕ) (d : Log) → i < j → j < suc (length logs) → (i < place) ⊎ (place ≤ i) → (j < place) ⊎ (place ≤ j) → P i j d
    order i j d lt within low (inl below) =
        by (at_below i d (omega (arith, lt, below))) (at_below j d below) (rising i j d lt (omega (arith, below, fits)))
    order i zero d lt within low (inr le) = absurd (not_both i 0 lt (omega arith))
    order i (suc j) d lt within (inl below) (inr le) = behind (split (suc j))
      where
        behind : (suc j ≤ place) ⊎ (place < suc j) → P i (suc j) d
        behind (inl same) =
            let is : suc j ≡ place = omega (arith, same, le) in
            by (at_below i d below) (subst (λ n. path_at (insert logs place log) n d ≡ path) (sym is) (at_here d))
            (end.lower i d (omega arith) below)
        behind (inr gt) =
            by (at_below i d below) (at_above j d (omega (arith, gt)))
            (rising i j d (omega (arith, below, gt)) (omega (arith, within)))
    order i (suc j) d lt within (inr ge) (inr le) = upper i j d (omega (arith, lt)) (omega (arith, within)) ge (omega (arith, lt, ge)) (split i)

-- the place that is found of a log that is known
pub same_place : (logs below : List Log) (path : List ℕ) (place i : ℕ) → below ≡ logs
    → (AreRising below → IsPathEnd below path place) → AreRising logs → IsAt logs i path → Some place ≡ Some i
same_place logs below path place i same end rising at =
    ap Some (sym (known_place logs path place i rising
    (subst (λ l. AreRising l → IsPathEnd l path place) same end rising) at))

-- a log that is known stands at the place that is found
pub known_there : (logs below here : List Log) (path : List ℕ) (place i : ℕ) → below ≡ logs → here ≡ logs
    → (AreRising below → IsPathEnd below path place) → AreRising logs → IsAt logs i path → IsAt here place path
known_there logs below here path place i same same_here end rising at =
    subst (λ l. IsAt l place path) (sym same_here)
    (subst (λ n. IsAt logs n path) (known_place logs path place i rising
    (subst (λ l. AreRising l → IsPathEnd l path place) same end rising) at) at)
