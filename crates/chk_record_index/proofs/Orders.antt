-- Orders in which some may be alike; those of numbers, texts and streams.
use Rattle.std.proofs.Common.{◌≡◌, ◌⊎◌, inl, inr, ℕ, ◌≤◌, Bool, true, false, ◌&&◌, ◌||◌, List, [], ◌∷◌, ap, sym, subst, ◌∙◌, refl, arith, true≢false, bytes_eq}
use Rattle.std.specs.Prelude.{nat_lt, nat_eq, ◌==◌}
use Rattle.std.proofs.lemmas.Bool.{and_parts, or_parts, or_from, or_cases, and_left, and_right, and_cases, and_from, ltb-true, ltb-false, le-ltb, eq-eqb, eqb-true, ne_eqb, cases_Bool, cases_eq}
use Rattle.chk_bytes.specs.Words.{text_lt}
use Rattle.chk_chunk.specs.Keys.{Stream, same_stream, stream_lt}
use Rattle.chk_world.proofs.Ends.{bytes_self, bytes_same}
use Rattle.chk_world.proofs.LinesRead.{text_lt_self as text_self}

-- an order in which some may be alike
pub record WeakOrder {X : Type 0} (lt : X → X → Bool) : Type 0 where
  pub one_way : (a b : X) → lt a b ≡ true → lt b a ≡ false
  pub onward : (a b c : X) → lt a b ≡ false → lt b c ≡ false → lt a c ≡ false

-- with a test of who is alike
pub record Tested {X : Type 0} (lt : X → X → Bool) (alike : X → X → Bool) : Type 0 where
  pub order : WeakOrder lt
  pub neither : (a b : X) → alike a b ≡ true → (lt a b ≡ false) × (lt b a ≡ false)
  pub are_alike : (a b : X) → lt a b ≡ false → lt b a ≡ false → alike a b ≡ true

self_not : {X : Type 0} (lt : X → X → Bool) → WeakOrder lt → (a : X) → lt a a ≡ false
self_not lt w a = go (lt a a) refl
  where
    go : (b : Bool) → lt a a ≡ b → lt a a ≡ false
    go true e = w.one_way a a e
    go false e = e

-- by one order, and among those that are alike by another one
pub lex : {X : Type 0} (lt alike lt2 : X → X → Bool) → Tested lt alike → WeakOrder lt2 → WeakOrder
    (λ a b. lt a b || (alike a b && lt2 a b))
lex lt alike lt2 t w = record {
  one_way = λ a b h. one a b (or_cases (lt a b) (alike a b && lt2 a b) h);
  onward = λ a b c p q. on a b c (or_parts (lt a b) (alike a b && lt2 a b) p)
      (or_parts (lt b c) (alike b c && lt2 b c) q);
}
  where
    not_alike : (a b : _) → lt a b ≡ true → alike b a ≡ false
    not_alike a b h = elim (cases_Bool (alike b a)) [
      | inl k0 ↦ absurd (true≢false (sym h ∙ (t.neither b a k0).1))
      | inr no_one ↦ no_one
    ]

    one : (a b : _) → (lt a b ≡ true) ⊎ ((alike a b && lt2 a b) ≡ true) →
        (lt b a || (alike b a && lt2 b a)) ≡ false
    one a b (inl h) = or_from (lt b a) (alike b a && lt2 b a) (t.order.one_way a b h)
        (and_left (alike b a) (lt2 b a) (not_alike a b h))
    one a b (inr h) =
        let p = and_parts (alike a b) (lt2 a b) h in
        or_from (lt b a) (alike b a && lt2 b a) (t.neither a b p.0).1
        (and_right (alike b a) (lt2 b a) (w.one_way a b p.1))

    second : (a b : _) → alike a b ≡ true → (alike a b && lt2 a b) ≡ false → lt2 a b ≡ false
    second a b k0 e = elim (and_cases (alike a b) (lt2 a b) e) [
      | inl n0 ↦ absurd (true≢false (sym k0 ∙ n0))
      | inr k ↦ k
    ]

    on : (a b c : _) → (lt a b ≡ false) × ((alike a b && lt2 a b) ≡ false) → (lt b c ≡ false) ×
        ((alike b c && lt2 b c) ≡ false)
        → (lt a c || (alike a c && lt2 a c)) ≡ false
    on a b c p q =
        or_from (lt a c) (alike a c && lt2 a c) (t.order.onward a b c p.0 q.0)
        (elim (cases_Bool (alike a c)) [
          | inl k0 ↦
              let n = t.neither a c k0 in
              let ab = t.are_alike a b p.0 (t.order.onward b c a q.0 n.1) in
              let bc = t.are_alike b c q.0 (t.order.onward c a b n.1 p.0) in
              and_right (alike a c) (lt2 a c)
              (w.onward a b c (second a b ab p.1) (second b c bc q.1))
          | inr n0 ↦ and_left (alike a c) (lt2 a c) n0
        ])

-- seen through a function
pub through : {X Y : Type 0} (f : X → Y) (lt : Y → Y → Bool) → WeakOrder lt → WeakOrder
    (λ a b. lt (f a) (f b))
through f lt w = record {
  one_way = λ a b. w.one_way (f a) (f b);
  onward = λ a b c. w.onward (f a)
      (f b) (f c);
}

pub tested_through : {X Y : Type 0} (f : X → Y) (lt alike : Y → Y → Bool) → Tested lt alike → Tested
    (λ a b. lt (f a) (f b)) (λ a b. alike (f a) (f b))
tested_through f lt alike t = record {
  order = through f lt t.order;
  neither = λ a b. t.neither (f a) (f b);
  are_alike = λ a b. t.are_alike (f a) (f b);
}

-- alike by both
pub lex_tested : {X : Type 0} (lt alike lt2 alike2 : X → X → Bool) → Tested lt alike
    → Tested lt2 alike2
    → Tested (λ a b. lt a b || (alike a b && lt2 a b)) (λ a b. alike a b && alike2 a b)
lex_tested lt alike lt2 alike2 t u = record {
  order = lex lt alike lt2 t u.order;
  neither = λ a b h.
      let p = and_parts (alike a b) (alike2 a b) h in
      let n = t.neither a b p.0 in
      let m = u.neither a b p.1 in (
        or_from (lt a b) (alike a b && lt2 a b) n.0 (and_right (alike a b) (lt2 a b) m.0),
        or_from (lt b a) (alike b a && lt2 b a) n.1 (and_right (alike b a) (lt2 b a) m.1),
      );
  are_alike = λ a b p q.
      let x = or_parts (lt a b) (alike a b && lt2 a b) p in
      let y = or_parts (lt b a) (alike b a && lt2 b a) q in
      let ab = t.are_alike a b x.0 y.0 in
      let ba = t.are_alike b a y.0 x.0 in
      and_from (alike a b) (alike2 a b) ab
      (u.are_alike a b (rest (alike a b) (lt2 a b) ab x.1) (rest (alike b a) (lt2 b a) ba y.1));
}
  where
    rest : (p q : Bool) → p ≡ true → (p && q) ≡ false → q ≡ false
    rest p q k0 e = elim (and_cases p q e) [
      | inl n0 ↦ absurd
          (true≢false (sym k0 ∙ n0))
      | inr k ↦ k
    ]

-- ---- numbers and texts

pub numbers : Tested nat_lt nat_eq
numbers = record {
  order = record { one_way = λ a b h. grind arith; onward = λ a b c p q. grind arith };
  neither = λ a b h. (grind arith, grind arith);
  are_alike = λ a b p q. grind arith;
}

first_below : (x y : ℕ) (t : Bool) → (nat_lt x y || (x == y && t)) ≡ false → (y ≤ x) ×
    (x ≡ y → t ≡ false)
first_below x y t e =
    let p = or_parts (nat_lt x y) (x == y && t) e in (
      ltb-false x y p.0,
      λ same. elim (and_cases (x == y) t p.1) [
        | inl n0 ↦ absurd (true≢false (sym (eq-eqb x y same) ∙ n0))
        | inr k ↦ k
      ],
    )

below_from : (x y : ℕ) (t : Bool) → y ≤ x → (x ≡ y → t ≡ false) → (nat_lt x y || (x == y && t))
    ≡ false
below_from x y t le f =
    or_from (nat_lt x y) (x == y && t) (le-ltb x y le) (elim (cases_eq x y) [
      | inl same ↦ and_right (x == y) t (f same)
      | inr differ ↦ and_left (x == y) t (ne_eqb x y differ)
    ])

text_one_way : (a b : List ℕ) → text_lt a b ≡ true → text_lt b a ≡ false
text_one_way a [] h = absurd (true≢false (sym h))
text_one_way [] (y ∷ vs) h = refl
text_one_way (x ∷ us) (y ∷ vs) h =
    let rest = text_one_way us vs in
    elim (or_cases (nat_lt x y) (x == y && text_lt us vs) h) [
      | inl low ↦ let l = ltb-true x y low in below_from y x (text_lt vs us) (omega (arith, l))
          (λ e. absurd (let z : ⊥ = omega (arith, l, e) in z))
      | inr eq ↦
          let p = and_parts (x == y) (text_lt us vs) eq in
          let same = eqb-true x y p.0 in
          below_from y x (text_lt vs us) (omega (arith, same)) (λ e. rest p.1)
    ]

text_onward : (a b c : List ℕ) → text_lt a b ≡ false → text_lt b c ≡ false → text_lt a c ≡ false
text_onward a b [] p q = refl
text_onward a [] (z ∷ ws) p q = absurd (true≢false q)
text_onward [] (y ∷ vs) (z ∷ ws) p q = absurd (true≢false p)
text_onward (x ∷ us) (y ∷ vs) (z ∷ ws) p q =
    let u = first_below x y (text_lt us vs) p in
    let v = first_below y z (text_lt vs ws) q in
    let rest = text_onward us vs ws in
    let a1 = u.0 in let a2 = v.0 in
    below_from x z (text_lt us ws) (omega (arith, a1, a2))
    (λ e. rest (u.1 (omega (arith, a1, a2, e))) (v.1 (omega (arith, a1, a2, e))))

text_alike : (a b : List ℕ) → text_lt a b ≡ false → text_lt b a ≡ false → a ≡ b
text_alike [] [] p q = refl
text_alike [] (y ∷ vs) p q = absurd (true≢false p)
text_alike (x ∷ us) [] p q = absurd (true≢false q)
text_alike (x ∷ us) (y ∷ vs) p q =
    let u = first_below x y (text_lt us vs) p in
    let v = first_below y x (text_lt vs us) q in
    let a1 = u.0 in let a2 = v.0 in
    let same : x ≡ y = omega (arith, a1, a2) in
    ap (λ n. n ∷ us) same ∙ ap (λ l. y ∷ l) (text_alike us vs (u.1 same) (v.1 (sym same)))

pub texts : Tested text_lt bytes_eq
texts = record {
  order = record { one_way = text_one_way; onward = text_onward };
  neither = λ a b h.
      let e = bytes_same a b h in (
        subst (λ l. text_lt a l ≡ false) e (text_self a),
        subst (λ l. text_lt l a ≡ false) e
            (text_self a),
      );
  are_alike = λ a b p q. subst (λ l. bytes_eq a l ≡ true) (text_alike a b p q) (bytes_self a);
}

pub streams : Tested stream_lt same_stream
streams =
    lex_tested (λ s t. text_lt s.source t.source) (λ s t. bytes_eq s.source t.source)
    (λ s t. text_lt s.kind t.kind || (bytes_eq s.kind t.kind && text_lt s.name t.name))
    (λ s t. bytes_eq s.kind t.kind && bytes_eq s.name t.name)
    (tested_through (λ (s : Stream). s.source) text_lt bytes_eq texts)
    (lex_tested (λ s t. text_lt s.kind t.kind) (λ s t. bytes_eq s.kind t.kind)
    (λ s t. text_lt s.name t.name) (λ s t. bytes_eq s.name t.name)
    (tested_through (λ (s : Stream). s.kind) text_lt bytes_eq texts)
    (tested_through (λ (s : Stream). s.name) text_lt bytes_eq texts))
