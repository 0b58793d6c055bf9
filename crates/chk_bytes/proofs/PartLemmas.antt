-- The parts of a text between separators.
use Rattle.std.proofs.Common.{◌≡◌, ℕ, suc, ltb, ◌+◌, ◌<◌, not, List, [], ◌∷◌, ◌++◌, Some, None, length, take, drop, get_or, refl, ap, sym, ◌∙◌, subst, inl, inr, arith}
use Rattle.std.specs.Prelude.{IsTrue, ◌==◌, position}
use Rattle.std.specs.List.{prefix_len, before_first}
use Rattle.std.proofs.lemmas.Bool.{and_parts, and_from, not-true, not-false, cases_Bool, cases_lt, cond-true, eqb-true, eq-eqb, not_from_true, not_from_false, lt-ltb, ltb-true, false≢true}
use Rattle.std.proofs.lemmas.List.{take_all}
use Rattle.std.proofs.lemmas.Option.{cond_some, none-some}
use Rattle.std.proofs.lemmas.List.Sums.{split_at_first, prefix_len_stops}
use Rattle.chk_bytes.specs.Words.{parts_at, lacks, SplitsAt}

-- without a separator the text is its one part
pub parts_at-whole : (separator : ℕ) (text : List ℕ) → IsTrue (lacks separator text)
    → parts_at separator text ≡ text ∷ []
parts_at-whole separator [] h = refl
parts_at-whole separator (b ∷ bs) h =
    let tests = and_parts (not (b == separator)) (lacks separator bs) h in
    rw (not-true (b == separator) tests.0, parts_at-whole separator bs tests.1) refl

-- what stands before the first separator is the first part
pub parts_at-front : (separator : ℕ) (front rest : List ℕ) → IsTrue (lacks separator front)
    → parts_at separator (front ++ separator ∷ rest) ≡ front ∷ parts_at separator rest
parts_at-front separator [] rest h = rw (eq-eqb separator separator refl) refl
parts_at-front separator (b ∷ bs) rest h =
    let tests = and_parts (not (b == separator)) (lacks separator bs) h in
    rw (not-true (b == separator) tests.0, parts_at-front separator bs rest tests.1) refl

-- a text with a separator doesn't lack it
pub lacks-separator : (separator : ℕ) (front rest : List ℕ)
    → IsTrue (lacks separator (front ++ separator ∷ rest)) → ⊥
lacks-separator separator [] rest h =
    let tests = and_parts (not (separator == separator)) (lacks separator rest) h in
    false≢true
    (sym (not_from_true (separator == separator) (eq-eqb separator separator refl)) ∙ tests.0)
lacks-separator separator (b ∷ bs) rest h =
    lacks-separator separator bs rest
    (and_parts (not (b == separator)) (lacks separator (bs ++ separator ∷ rest)) h).1

-- there is one way to split at the first separator
pub same_split : (separator : ℕ) (front back front' back' : List ℕ)
    → IsTrue (lacks separator front) → IsTrue (lacks separator front')
    → front ++ separator ∷ back ≡ front' ++ separator ∷ back' → (front ≡ front') × (back ≡ back')
same_split separator [] back [] back' h h' same = (refl, cc)
same_split separator [] back (c ∷ cs) back' h h' same =
    let first : c ≡ separator = cc in
    let tests = and_parts (not (c == separator)) (lacks separator cs) h' in
    absurd (false≢true (sym (not_from_true (c == separator) (eq-eqb c separator first)) ∙ tests.0))
same_split separator (b ∷ bs) back [] back' h h' same =
    let first : b ≡ separator = cc in
    let tests = and_parts (not (b == separator)) (lacks separator bs) h in
    absurd (false≢true (sym (not_from_true (b == separator) (eq-eqb b separator first)) ∙ tests.0))
same_split separator (b ∷ bs) back (c ∷ cs) back' h h' same =
    let first : b ≡ c = cc in
    let others : bs ++ separator ∷ back ≡ cs ++ separator ∷ back' = cc in
    let tests = and_parts (not (b == separator)) (lacks separator bs) h in
    let tests' = and_parts (not (c == separator)) (lacks separator cs) h' in
    let rest = same_split separator bs back cs back' tests.1 tests'.1 others in
    (ap (λ x. x ∷ bs) first ∙ ap (λ xs. c ∷ xs) rest.0, rest.1)

-- where the separator is found first
before_lacks : (separator : ℕ) (text : List ℕ)
    → IsTrue (lacks separator (before_first (λ b. b == separator) text))
before_lacks separator [] = refl
before_lacks separator (b ∷ bs) =
    elim (cases_Bool (b == separator)) [
      | inl here ↦ rw here refl
      | inr other ↦
          let n = prefix_len (λ x. not (x == separator)) bs in
          let next : 1 + n ≡ suc n = omega arith in
          rw (other, next)
          (and_from (not (b == separator)) (lacks separator (take n bs))
          (not_from_false (b == separator) other) (before_lacks separator bs))
    ]

pub split_found : (separator at : ℕ) (text : List ℕ) → position (λ b. b == separator) text ≡ Some at
    → SplitsAt separator text (take at text) (drop (at + 1) text)
split_found separator at text h =
    let n = prefix_len (λ x. not (x == separator)) text in
    let parts = cond_some (ltb n (length text)) n at h in
    let within : n < length text = ltb-true n (length text) parts.0 in
    let stops : get_or text n 0 ≡ separator =
    eqb-true (get_or text n 0) separator
    (not-false (get_or text n 0 == separator)
    (prefix_len_stops (λ x. not (x == separator)) text 0 within)) in
    let P : ℕ → Type 0 = λ k. SplitsAt separator text (take k text) (drop (k + 1) text) in
    subst P parts.1 record {
      front_lacks = before_lacks separator text;
      whole = split_at_first (λ b. b == separator) text 0 within
          ∙ ap (λ c. take n text ++ (c ∷ drop (n + 1) text)) stops;
    }

pub split_none : (separator : ℕ) (text : List ℕ) → position (λ b. b == separator) text ≡ None
    → IsTrue (lacks separator text)
split_none separator text h =
    let n = prefix_len (λ x. not (x == separator)) text in
    elim (cases_lt n (length text)) [
      | inl within ↦
          absurd (none-some n
          (sym h ∙ cond-true (ltb n (length text)) (Some n) None
          (lt-ltb n (length text) within)))
      | inr past ↦
          subst (λ t. IsTrue (lacks separator t)) (take_all n text past)
          (before_lacks separator text)
    ]
