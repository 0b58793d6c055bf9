-- Variable-length integers: what is accepted, and that the shortest is written.
use Rattle.std.proofs.Common.{◌≡◌, ℕ, zero, suc, ◌+◌, ◌-◌, ◌^◌, ◌<◌, ◌≤◌, Bool, true, false, cond, ltb, ◌&&◌, List, [], ◌∷◌, ◌++◌, length, take, drop, Ok, Err, refl, sym, ap, ◌∙◌, subst, inl, inr, arith, length-append, add-zero, lit<}
use Rattle.std.specs.Prelude.{nat_lt, nat_le}
use Rattle.std.proofs.Math.Nat.{pow-le-pow_right}
use Rattle.std.proofs.Math.Seq.{take-append_seam, drop-append_seam}
use Rattle.std.proofs.lemmas.Bool.{lt-ltb, le-ltb, ltb-true, ltb-false, leb-false, or_parts, and_cases, cases_lt, cond-true, cond-false, cond_both}
use Rattle.std.proofs.lemmas.Bool.Decides.{nat_tests}
use Rattle.std.proofs.lemmas.List.{take-append-drop, length-take, get_or-drop}
use Rattle.chk_bytes.specs.Numbers.{be16, be24, be32, spelled}
use Rattle.chk_bytes.specs.Laws.{AreBytes, IsSpelledAt}
use Rattle.chk_bytes.specs.Vints.{vint_at, vint_before, vint_limit, vint_size, vint_number, begins_negative, vint_spelling, VintSpells, one_byte, counted}
use Rattle.chk_bytes.specs.declared.vints.VintFault.TheVariants.{Short, Negative, TooLarge}
use Rattle.chk_bytes.proofs.NumberLemmas.{spelled-be16, spelled-be24, spelled-be32, spelled_below}
use Rattle.chk_bytes.proofs.VintLemmas.{before_ok}

-- the two kinds of first bytes of numbers from 0
size_one : (first : ℕ) → first < 128 → 0 ≡ vint_size first
size_one first small = rw (lt-ltb first 128 small) refl

size_counted : (first : ℕ) → 136 ≤ first → first < 144 → 144 - first ≡ vint_size first
size_counted first low high =
    let over : 128 ≤ first = omega arith in
    rw (le-ltb first 128 over, le-ltb first 136 low, lt-ltb first 144 high) refl

positive_one : (first : ℕ) → first < 128 → begins_negative first ≡ false
positive_one first small = grind (arith, nat_tests)

positive_counted : (first : ℕ) → 136 ≤ first → first < 144 → begins_negative first ≡ false
positive_counted first low high = grind (arith, nat_tests)

positive_cases : (first : ℕ) → begins_negative first ≡ false → 128 ≤ first
    → (136 ≤ first) × (first < 144)
positive_cases first h large =
    let parts = or_parts (nat_le 128 first && nat_lt first 136) (nat_le 144 first) h in
    let high : first < 144 = leb-false 144 first parts.1 in
    elim (and_cases (nat_le 128 first) (nat_lt first 136) parts.0) [
      | inl below ↦ absurd (let small : first < 128 = leb-false 128 first below in omega arith)
      | inr past ↦ (ltb-false first 136 past, high)
    ]

-- what an accepted number says of the tests
ok_parts : (a b c : Bool) (x y : ℕ × ℕ)
    → cond a (Err Short) (cond b (Err Negative) (cond c (Ok x) (Err TooLarge))) ≡ Ok y
    → (a ≡ false) × (b ≡ false) × (c ≡ true) × (x ≡ y)
ok_parts true b c x y h = absurd (cc)
ok_parts false true c x y h = absurd (cc)
ok_parts false false true x y h = (refl, refl, refl, cc)
ok_parts false false false x y h = absurd (cc)

-- an accepted spelling is one of the table
spelled_before : (at n next : ℕ) (text : List ℕ) → vint_before at text ≡ Ok (n, next)
    → (n < vint_limit)
    × ((spelling rest : List ℕ) × VintSpells n spelling × (text ≡ spelling ++ rest)
    × (next ≡ at + length spelling))
spelled_before at n next [] h = absurd (cc)
spelled_before at n next (first ∷ rest) h =
    let size = vint_size first in
    let m = vint_number first (take size rest) in
    let parts = ok_parts (nat_lt (length rest) size) (begins_negative first) (nat_lt m vint_limit)
    (m, at + 1 + size) (n, next) h in
    let whole : size ≤ length rest = ltb-false (length rest) size parts.0 in
    let m_is : m ≡ n = ap (λ (x : ℕ × ℕ). x.0) parts.3 in
    let next_is : at + 1 + size ≡ next = ap (λ (x : ℕ × ℕ). x.1) parts.3 in
    let small : n < vint_limit =
    subst (λ (k : ℕ). k < vint_limit) m_is (ltb-true m vint_limit parts.2) in
    elim (cases_lt first 128) [
      | inl low ↦
          let first_is : first ≡ n = sym
          (cond-true (ltb first 128) first (spelled (take size rest)) (lt-ltb first 128 low))
          ∙ m_is in
          let none : 0 ≡ size = size_one first low in (
            small,
            (
              first ∷ [],
              rest,
              subst (λ (k : ℕ). VintSpells k (first ∷ [])) first_is
                  (one_byte first low),
              refl,
              omega arith,
            ),
          )
      | inr high ↦
          let range = positive_cases first parts.1 high in
          let size_is : 144 - first ≡ size = size_counted first range.0 range.1 in
          let bytes = take size rest in
          let as_long : length bytes ≡ size = omega (arith, length-take size rest) in
          let spells_is : spelled bytes ≡ n =
          sym (cond-false (ltb first 128) first (spelled bytes) (le-ltb first 128 high))
          ∙ m_is in
          let first_is : 144 - length bytes ≡ first = omega arith in
          let spells : VintSpells (spelled bytes) ((144 - length bytes) ∷ bytes) =
          counted bytes (omega arith) (omega arith) in
          let spells' : VintSpells n (first ∷ bytes) =
          subst (λ (k : ℕ). VintSpells k (first ∷ bytes)) spells_is
          (subst (λ (f : ℕ). VintSpells (spelled bytes) (f ∷ bytes)) first_is spells) in (
            small,
            (
              first ∷ bytes,
              drop size rest,
              spells',
              ap (λ (r : List ℕ). first ∷ r)
                  (sym (take-append-drop size rest)),
              omega arith,
            ),
          )
    ]

-- each spelling of the table is accepted
before_spelled : (at n : ℕ) (spelling rest : List ℕ) → n < vint_limit → VintSpells n spelling
    → vint_before at (spelling ++ rest) ≡ Ok (n, at + length spelling)
before_spelled at _ _ rest small (one_byte n low) =
    before_ok at n 0 n rest (size_one n low) (omega arith) (positive_one n low)
    (sym (cond-true (ltb n 128) n (spelled (take 0 rest)) (lt-ltb n 128 low))) small
    ∙ ap (λ (k : ℕ). Ok (n, k)) (add-zero (at + 1))
before_spelled at _ _ rest small (counted bytes some short) =
    let first = 144 - length bytes in
    let low : 136 ≤ first = omega arith in
    let high : first < 144 = omega arith in
    let over : 128 ≤ first = omega arith in
    let same : length bytes ≡ 144 - first = omega arith in
    let size_is : length bytes ≡ vint_size first = same ∙ size_counted first low high in
    let front : take (length bytes) (bytes ++ rest) ≡ bytes = take-append_seam bytes rest in
    let is : spelled bytes ≡ vint_number first (take (length bytes) (bytes ++ rest)) =
    ap spelled (sym front)
    ∙ sym (cond-false (ltb first 128) first (spelled (take (length bytes) (bytes ++ rest)))
    (le-ltb first 128 over)) in
    let next : at + 1 + length bytes ≡ at + suc (length bytes) = omega arith in
    before_ok at first (length bytes) (spelled bytes) (bytes ++ rest) size_is
    (omega (arith, length-append bytes rest))
    (positive_counted first low high) is small
    ∙ ap (λ (k : ℕ). Ok (spelled bytes, k)) next

-- just the spellings of numbers below 2^31 are read
pub vint_at-Ok : (bytes : List ℕ) (at n next : ℕ) → vint_at bytes at ≡ Ok (n, next)
    → (n < vint_limit) × IsSpelledAt bytes at n next
unfolding vint_at
vint_at-Ok bytes at n next h = spelled_before at n next (drop at bytes) h

pub vint_at-spelled : (bytes : List ℕ) (at n next : ℕ)
    → (n < vint_limit) × IsSpelledAt bytes at n next → vint_at bytes at ≡ Ok (n, next)
unfolding vint_at
vint_at-spelled bytes at n next (small, (spelling, rest, spells, split, ends)) =
    ap (vint_before at) split ∙ before_spelled at n spelling rest small spells
    ∙ ap (λ (k : ℕ). Ok (n, k)) (sym ends)

-- what is written is a spelling
counted_as : (n : ℕ) (bytes : List ℕ) → spelled bytes ≡ n → 1 ≤ length bytes → length bytes ≤ 8
    → VintSpells n ((144 - length bytes) ∷ bytes)
counted_as n bytes is some short = subst (λ (k : ℕ). VintSpells k ((144 - length bytes) ∷ bytes))
    is (counted bytes some short)

pub vint_spelling_spells : (n : ℕ) → n < vint_limit → VintSpells n (vint_spelling n)
vint_spelling_spells n small =
    cond_both (ltb n (2 ^ 7)) _ _ (VintSpells n) (λ t. one_byte n (ltb-true n (2 ^ 7) t)) (λ _.
    cond_both (ltb n (2 ^ 8)) _ _ (VintSpells n)
    (λ _. counted_as n (n ∷ []) (omega arith) (omega arith) (omega arith)) (λ _.
    cond_both (ltb n (2 ^ 16)) _ _ (VintSpells n)
    (λ t. let below = ltb-true n (2 ^ 16) t in
    counted_as n (be16 n) (spelled-be16 n (omega arith)) (omega arith) (omega arith)) (λ _.
    cond_both (ltb n (2 ^ 24)) _ _ (VintSpells n)
    (λ t. let below = ltb-true n (2 ^ 24) t in
    counted_as n (be24 n) (spelled-be24 n (omega arith)) (omega arith) (omega arith))
    (λ _. let below : n < 2 ^ 31 = small in
    counted_as n (be32 n) (spelled-be32 n (omega arith)) (omega arith) (omega arith)))))

-- and it is read, wherever it stands
pub vint_reads_back : (n : ℕ) (front back : List ℕ) → n < vint_limit
    → vint_at (front ++ (vint_spelling n ++ back)) (length front) ≡ Ok
    (n, length front + length (vint_spelling n))
vint_reads_back n front back small =
    vint_at-spelled (front ++ (vint_spelling n ++ back)) (length front) n
    (length front + length (vint_spelling n)) (
      small,
      (
        vint_spelling n,
        back,
        vint_spelling_spells n small,
        drop-append_seam front
            (vint_spelling n ++ back),
        refl,
      ),
    )

-- the shortest is written
digits_more : (n j k : ℕ) → n < 256 ^ k → 256 ^ j ≤ n → j < k
digits_more n j k below reaches =
    elim (cases_lt j k) [
      | inl more ↦ more
      | inr fewer ↦
          absurd (let high : 256 ^ k ≤ 256 ^ j =
          pow-le-pow_right (omega arith) fewer in omega arith)
    ]

length_vint : (n k : ℕ) → n < 256 ^ k → 1 ≤ k → length (vint_spelling n) ≤ 1 + k
length_vint n k below some =
    let P : List ℕ → Type 0 = λ s. length s ≤ 1 + k in
    cond_both (ltb n (2 ^ 7)) _ _ P (λ _. omega arith) (λ _.
    cond_both (ltb n (2 ^ 8)) _ _ P (λ _. omega arith) (λ f1.
    let more1 : 1 < k = digits_more n 1 k below (ltb-false n (2 ^ 8) f1) in
    cond_both (ltb n (2 ^ 16)) _ _ P (λ _. omega arith) (λ f2.
    let more2 : 2 < k = digits_more n 2 k below (ltb-false n (2 ^ 16) f2) in
    cond_both (ltb n (2 ^ 24)) _ _ P (λ _. omega arith) (λ f3.
    let more3 : 3 < k = digits_more n 3 k below (ltb-false n (2 ^ 24) f3) in
    omega arith))))

spelling_one : (n : ℕ) → n < 128 → vint_spelling n ≡ n ∷ []
spelling_one n low = rw (lt-ltb n 128 low) refl

shortest : (n : ℕ) (spelling : List ℕ) → VintSpells n spelling → AreBytes spelling
    → length (vint_spelling n) ≤ length spelling
shortest _ _ (one_byte n low) are = omega (arith, ap length (spelling_one n low))
shortest _ _ (counted bytes some short) are =
    omega (
      arith,
      length_vint (spelled bytes) (length bytes)
          (spelled_below bytes (λ i. are (suc i))) some,
    )

front_bytes : (front back : List ℕ) → AreBytes (front ++ back) → AreBytes front
front_bytes [] back are i = lit< tt
front_bytes (b ∷ front) back are zero = are 0
front_bytes (b ∷ front) back are (suc i) = front_bytes front back (λ j. are (suc j)) i

pub vint_shortest : (bytes : List ℕ) (at n next : ℕ) → AreBytes bytes
    → vint_at bytes at ≡ Ok (n, next)
    → at + length (vint_spelling n) ≤ next
vint_shortest bytes at n next are h =
    let stands = (vint_at-Ok bytes at n next h).1 in
    go stands.0 stands.1 stands.2 stands.3 stands.4
  where
    go : (spelling rest : List ℕ) → VintSpells n spelling → drop at bytes ≡ spelling ++ rest
        → next ≡ at + length spelling
        → at + length (vint_spelling n) ≤ next
    go spelling rest spells split ends =
        let behind : AreBytes (drop at bytes) = λ i. rw (get_or-drop at bytes i 0) (are (at + i)) in
        let here : AreBytes spelling = front_bytes spelling rest (subst AreBytes split behind) in
        omega (arith, shortest n spelling spells here)
