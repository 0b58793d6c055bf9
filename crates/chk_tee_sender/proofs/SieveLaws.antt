-- What a sieve lets through.
use Rattle.std.proofs.Common.{◌≡◌, ◌⊎◌, inl, inr, ℕ, ◌<◌, Bool, true, false, cond, List, [], ◌∷◌, ◌++◌, refl, sym, ap, ap₂, ◌∙◌, arith}
use Rattle.std.specs.Prelude.{◌&&◌, ◌||◌, ◌==◌, nat_lt, bytes_eq, if◌then◌else◌}
use Rattle.std.proofs.lemmas.Bool.{cond-true, cond-false, and_parts, and_from, false_from_ne_true, eqb-true, eq-eqb, ltb-true, lt-ltb, true≢false}
use Rattle.std.proofs.lemmas.Slice.Eq.{bytes_eq-Decides}
use Rattle.chk_tee_sender.specs.Sieves.{same_collector, later, greater, is_fresh, asked_for, asked_for_all, is_above, let_through, rises}
use Rattle.chk_tee_sender.specs.declared.sieve.Mark.{Mark}

-- ---- the order

-- the second place is above the first
abbrev Above : Mark → Mark → Type 0
Above a b =
    (a.stem.born < b.stem.born)
    ⊎ ((a.stem.born ≡ b.stem.born)
    × ((a.stem.number < b.stem.number) ⊎ ((a.stem.number ≡ b.stem.number) × (a.offset < b.offset))))

pub or_parts : (a b : Bool) → (a || b) ≡ true → (a ≡ true) ⊎ (b ≡ true)
or_parts true b h = inl refl
or_parts false b h = inr h

or_right : (a b : Bool) → b ≡ true → (a || b) ≡ true
or_right true b h = refl
or_right false b h = h

or_left : (a b : Bool) → a ≡ true → (a || b) ≡ true
or_left true b h = refl
or_left false b h = absurd (true≢false (sym h))

above : (a b : Mark) → later a b ≡ true → Above a b
above a b h =
    elim (or_parts (nat_lt a.stem.born b.stem.born) _ h) [
      | inl less ↦ inl (ltb-true a.stem.born b.stem.born less)
      | inr rest ↦
          let p = and_parts (a.stem.born == b.stem.born) _ rest in
          inr (
            eqb-true a.stem.born b.stem.born p.0,
            elim (or_parts (nat_lt a.stem.number b.stem.number) _ p.1) [
              | inl less ↦ inl (ltb-true a.stem.number b.stem.number less)
              | inr same ↦
                  let q = and_parts (a.stem.number == b.stem.number) _ same in
                  inr (eqb-true a.stem.number b.stem.number q.0, ltb-true a.offset b.offset q.1)
            ],
          )
    ]

later_from : (a b : Mark) → Above a b → later a b ≡ true
later_from a b (inl less) = or_left (nat_lt a.stem.born b.stem.born) _ (lt-ltb a.stem.born b.stem.born less)
later_from a b (inr (same, inl less)) =
    or_right (nat_lt a.stem.born b.stem.born) _
    (and_from (a.stem.born == b.stem.born) _ (eq-eqb a.stem.born b.stem.born same)
    (or_left (nat_lt a.stem.number b.stem.number) _ (lt-ltb a.stem.number b.stem.number less)))
later_from a b (inr (same, inr (number, less))) =
    or_right (nat_lt a.stem.born b.stem.born) _
    (and_from (a.stem.born == b.stem.born) _ (eq-eqb a.stem.born b.stem.born same)
    (or_right (nat_lt a.stem.number b.stem.number) _
    (and_from (a.stem.number == b.stem.number) _ (eq-eqb a.stem.number b.stem.number number) (lt-ltb a.offset b.offset less))))

above_then : (a b c : Mark) → Above a b → Above b c → Above a c
above_then a b c (inl h) (inl i) = inl (omega arith)
above_then a b c (inl h) (inr (s, i)) = inl (omega arith)
above_then a b c (inr (s, h)) (inl i) = inl (omega arith)
above_then a b c (inr (s, inl h)) (inr (t, inl i)) = inr (s ∙ t, inl (omega arith))
above_then a b c (inr (s, inl h)) (inr (t, inr (u, i))) = inr (s ∙ t, inl (omega arith))
above_then a b c (inr (s, inr (u, h))) (inr (t, inl i)) = inr (s ∙ t, inl (omega arith))
above_then a b c (inr (s, inr (u, h))) (inr (t, inr (v, i))) = inr (s ∙ t, inr (u ∙ v, omega arith))

compared : (a b : ℕ) → (a < b) ⊎ ((a ≡ b) ⊎ (b < a))
compared a b = grind arith

-- where the second isn't above the first, what is above the first is above the second
follows : (m q p : Mark) → (Above m q → ⊥) → Above m p → Above q p
follows m q p other (inl h) = go (compared m.stem.born q.stem.born)
  where
    go : (m.stem.born < q.stem.born) ⊎ ((m.stem.born ≡ q.stem.born) ⊎ (q.stem.born < m.stem.born)) → Above q p
    go (inl less) = absurd (other (inl less))
    go (inr (inl same)) = inl (omega arith)
    go (inr (inr more)) = inl (omega arith)
follows m q p other (inr (s, inl h)) = go (compared m.stem.born q.stem.born) (compared m.stem.number q.stem.number)
  where
    go : (m.stem.born < q.stem.born) ⊎ ((m.stem.born ≡ q.stem.born) ⊎ (q.stem.born < m.stem.born))
        → (m.stem.number < q.stem.number) ⊎ ((m.stem.number ≡ q.stem.number) ⊎ (q.stem.number < m.stem.number)) → Above q p
    go (inl less) n = absurd (other (inl less))
    go (inr (inr more)) n = inl (omega arith)
    go (inr (inl same)) (inl less) = absurd (other (inr (same, inl less)))
    go (inr (inl same)) (inr (inl e)) = inr (sym same ∙ s, inl (omega arith))
    go (inr (inl same)) (inr (inr more)) = inr (sym same ∙ s, inl (omega arith))
follows m q p other (inr (s, inr (u, h))) =
    go (compared m.stem.born q.stem.born) (compared m.stem.number q.stem.number) (compared m.offset q.offset)
  where
    go : (m.stem.born < q.stem.born) ⊎ ((m.stem.born ≡ q.stem.born) ⊎ (q.stem.born < m.stem.born))
        → (m.stem.number < q.stem.number) ⊎ ((m.stem.number ≡ q.stem.number) ⊎ (q.stem.number < m.stem.number))
        → (m.offset < q.offset) ⊎ ((m.offset ≡ q.offset) ⊎ (q.offset < m.offset)) → Above q p
    go (inl less) n o = absurd (other (inl less))
    go (inr (inr more)) n o = inl (omega arith)
    go (inr (inl same)) (inl less) o = absurd (other (inr (same, inl less)))
    go (inr (inl same)) (inr (inr more)) o = inr (sym same ∙ s, inl (omega arith))
    go (inr (inl same)) (inr (inl e)) (inl less) = absurd (other (inr (same, inr (e, less))))
    go (inr (inl same)) (inr (inl e)) (inr (inl k)) = inr (sym same ∙ s, inr (sym e ∙ u, omega arith))
    go (inr (inl same)) (inr (inl e)) (inr (inr more)) = inr (sym same ∙ s, inr (sym e ∙ u, omega arith))

-- ---- the greatest place that it was asked for

both_true : (a b : Bool) → (a ≡ true → b ≡ true) → a ≡ (a && b)
both_true true b h = sym (h refl)
both_true false b h = refl

second_true : (a b : Bool) → (b ≡ true → a ≡ true) → b ≡ (a && b)
second_true true b h = refl
second_true false true h = sym (h refl)
second_true false false h = refl

-- above the greater of two is above both
greater_later : (m q p : Mark) → later (greater m q) p ≡ (later m p && later q p)
greater_later m q p = go (later m q) refl
  where
    go : (b : Bool) → later m q ≡ b → later (cond b q m) p ≡ (later m p && later q p)
    go true e = second_true (later m p) (later q p) (λ h. later_from m p (above_then m q p (above m q e) (above q p h)))
    go false e =
        both_true (later m p) (later q p)
        (λ h. later_from q p (follows m q p (λ up. true≢false (sym (later_from m q up) ∙ e)) (above m p h)))

same_as : (a b : Mark) → same_collector a b ≡ true → a.stem.collector ≡ b.stem.collector
same_as a b h = (bytes_eq-Decides a.stem.collector b.stem.collector).0 h

-- a place of the same collector stands for it
same_by : (a b p : Mark) → a.stem.collector ≡ b.stem.collector → same_collector a p ≡ same_collector b p
same_by a b p is = ap (λ (c : List ℕ). bytes_eq c p.stem.collector) is

greater_name : (m q : Mark) → m.stem.collector ≡ q.stem.collector → (greater m q).stem.collector ≡ q.stem.collector
greater_name m q is = go (later m q)
  where
    go : (b : Bool) → (cond b q m).stem.collector ≡ q.stem.collector
    go true = refl
    go false = is

-- the place is above this one, where it is of its collector
abbrev over : Mark → Mark → Bool
over q p = if same_collector q p then later q p else true

and_true : (a : Bool) → a ≡ (a && true)
and_true true = refl
and_true false = refl

pub fresh_more : (marks : List Mark) (q p : Mark) → is_fresh (asked_for marks q) p ≡ (is_fresh marks p && over q p)
fresh_more [] q p = go (same_collector q p)
  where
    go : (b : Bool) → cond b (later q p) true ≡ cond b (later q p) true
    go b = refl
fresh_more (m ∷ ms) q p = go (fresh_more ms q p) (same_collector m q) refl
  where
    of_it : same_collector m q ≡ true → (b : Bool) → same_collector q p ≡ b
        → is_fresh (greater m q ∷ ms) p ≡ (is_fresh (m ∷ ms) p && over q p)
    of_it e true f =
        let name = same_as m q e in
        let g : same_collector (greater m q) p ≡ true = same_by (greater m q) q p (greater_name m q name) ∙ f in
        let h : same_collector m p ≡ true = same_by m q p name ∙ f in
        cond-true _ _ _ g ∙ (greater_later m q p ∙ ap₂ (λ a b. a && b) (sym (cond-true (same_collector m p) (later m p) (is_fresh ms p) h)) (sym (cond-true (same_collector q p) (later q p) true f)))
    of_it e false f =
        let name = same_as m q e in
        let g : same_collector (greater m q) p ≡ false = same_by (greater m q) q p (greater_name m q name) ∙ f in
        let h : same_collector m p ≡ false = same_by m q p name ∙ f in
        cond-false _ _ _ g ∙ (sym (cond-false (same_collector m p) (later m p) (is_fresh ms p) h)
        ∙ (and_true (is_fresh (m ∷ ms) p) ∙ ap (λ b. is_fresh (m ∷ ms) p && b) (sym (cond-false (same_collector q p) (later q p) true f))))

    apart : is_fresh (asked_for ms q) p ≡ (is_fresh ms p && over q p) → same_collector m q ≡ false → (b : Bool) → same_collector m p ≡ b
        → is_fresh (m ∷ asked_for ms q) p ≡ (is_fresh (m ∷ ms) p && over q p)
    apart rest e true f =
        let other : same_collector q p ≡ false =
        false_from_ne_true _ (λ h. true≢false (sym ((bytes_eq-Decides m.stem.collector q.stem.collector).1 (same_as m p f ∙ sym (same_as q p h))) ∙ e)) in
        cond-true _ _ _ f ∙ (sym (cond-true (same_collector m p) (later m p) (is_fresh ms p) f)
        ∙ (and_true (is_fresh (m ∷ ms) p) ∙ ap (λ b. is_fresh (m ∷ ms) p && b) (sym (cond-false (same_collector q p) (later q p) true other))))
    apart rest e false f =
        cond-false _ _ _ f ∙ (rest ∙ ap (λ b. b && over q p) (sym (cond-false (same_collector m p) (later m p) (is_fresh ms p) f)))

    go : is_fresh (asked_for ms q) p ≡ (is_fresh ms p && over q p) → (b : Bool) → same_collector m q ≡ b
        → is_fresh (cond b (greater m q ∷ ms) (m ∷ asked_for ms q)) p ≡ (is_fresh (m ∷ ms) p && over q p)
    go rest true e = of_it e (same_collector q p) refl
    go rest false e = apart rest e (same_collector m p) refl

and_assoc : (a b c : Bool) → ((a && b) && c) ≡ (a && (b && c))
and_assoc true b c = refl
and_assoc false b c = refl

fresh_all : (marks asked : List Mark) (p : Mark) → is_fresh (asked_for_all marks asked) p ≡ (is_fresh marks p && is_above asked p)
fresh_all marks [] p = and_true (is_fresh marks p)
fresh_all marks (q ∷ asked) p =
    fresh_all (asked_for marks q) asked p
    ∙ (ap (λ b. b && is_above asked p) (fresh_more marks q p) ∙ and_assoc (is_fresh marks p) (over q p) (is_above asked p))

pub fresh_is_above : (asked : List Mark) (p : Mark) → is_fresh (asked_for_all [] asked) p ≡ is_above asked p
fresh_is_above asked p = fresh_all [] asked p

-- ---- each place once

-- the places that were let through stand for those that it was asked for
abbrev Stands : List Mark → List Mark → Type 0
Stands marks before = (p : Mark) → is_fresh marks p ≡ true → is_above before p ≡ true

above_more : (before : List Mark) (q p : Mark) → is_above before p ≡ true → over q p ≡ true → is_above (before ++ q ∷ []) p ≡ true
above_more [] q p h i = and_from (over q p) true i refl
above_more (b ∷ before) q p h i =
    let k = and_parts (over b p) (is_above before p) h in
    and_from (over b p) (is_above (before ++ q ∷ []) p) k.0 (above_more before q p k.1 i)

once_from : (marks before asked : List Mark) → Stands marks before → rises before (let_through marks asked) ≡ true
once_from marks before [] stands = refl
once_from marks before (q ∷ asked) stands =
    go (λ more. once_from (asked_for marks q) (before ++ q ∷ []) asked more)
    (λ more. once_from (asked_for marks q) before asked more) (is_fresh marks q) refl
  where
    go : (Stands (asked_for marks q) (before ++ q ∷ []) → rises (before ++ q ∷ []) (let_through (asked_for marks q) asked) ≡ true)
        → (Stands (asked_for marks q) before → rises before (let_through (asked_for marks q) asked) ≡ true)
        → (b : Bool) → is_fresh marks q ≡ b
        → rises before (cond b (q ∷ let_through (asked_for marks q) asked) (let_through (asked_for marks q) asked)) ≡ true
    go taken passed true e =
        and_from (is_above before q) _ (stands q e)
        (taken
        (λ p fresh.
        let k = and_parts (is_fresh marks p) (over q p) (sym (fresh_more marks q p) ∙ fresh) in
        above_more before q p (stands p k.0) k.1))
    go taken passed false e =
        passed (λ p fresh. stands p (and_parts (is_fresh marks p) (over q p) (sym (fresh_more marks q p) ∙ fresh)).0)

pub each_once : (asked : List Mark) → rises [] (let_through [] asked) ≡ true
each_once asked = once_from [] [] asked (λ p fresh. refl)
