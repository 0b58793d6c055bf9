-- Decimal digits, written from the last to the first.
use Rattle.std.proofs.Common.{◌≡◌, ℕ, zero, suc, ◌+◌, ◌-◌, ◌*◌, ◌/◌, ◌%◌, ◌^◌, ◌<◌, ◌≤◌, ◌&&◌, Bool, true, false, cond, List, [], ◌∷◌, ◌++◌, Some, None, length, get_or, take, drop, set, decimal, bytes_eq, refl, sym, ap, ◌∙◌, subst, arith, rules, length-append, append_assoc}
use Rattle.std.specs.Prelude.{nat_lt, nat_le}
use Rattle.std.proofs.lemmas.List.{drop-set, length-take, take-append-drop}
use Rattle.std.specs.Char.{is_ascii_digit}
use Rattle.std.specs.Int.{IsInRange}
use Rattle.std.specs.List.{list_all}
use Rattle.std.specs.Str.Parse.{digits_value}
use Rattle.std.proofs.lemmas.Bool.{and_parts, and_from, ltb-true, leb-true, lt-ltb, le-leb, cond-true, cond-false, false_from_ne_true}
use Rattle.std.proofs.lemmas.Option.{cond_some}
use Rattle.std.proofs.lemmas.Slice.Eq.{bytes_eq-Decides}
use Rattle.chk_bytes.specs.Numbers.{limit, number_in_digits, plain_number}
use Rattle.std.proofs.lemmas.Int.Digits.{digits_value_more}
use Rattle.std.proofs.lemmas.List.Folds.{list_all-append}
use Rattle.std.proofs.lemmas.Str.{digit_value_digit}
use Rattle.std.proofs.lemmas.Str.Parse.{IsNumeralModel, numerals_by_value, digits_value_short, digit_at as std_digit_at}
use Rattle.std.proofs.lemmas.Fmt.{decimal_step, decimal_digit, decimal_nonempty, length-decimal-le, digits_decimal, digits_value-decimal, decimal-digits_value, first_decimal}

-- one more digit in front of those written so far
pub digit_written : (n rest from next : ℕ) (digits : List ℕ) → next ≡ from → 10 ≤ rest
    → rest < 2 ^ 64 → from < length digits
    → decimal n ≡ decimal rest ++ drop (from + 1) digits
    → decimal n ≡ decimal (rest / 10) ++ drop next (set digits from (48 + rest % 10))
digit_written n rest from next digits same ten small within so_far =
    so_far
    ∙ ap (λ ds. ds ++ drop (from + 1) digits) (decimal_step rest ten small)
    ∙ append_assoc (decimal (rest / 10)) ((48 + rest % 10) ∷ []) (drop (from + 1) digits)
    ∙ ap (λ ds. decimal (rest / 10) ++ ds) (sym (drop-set digits from (48 + rest % 10) within))
    ∙ ap (λ k. decimal (rest / 10) ++ drop k (set digits from (48 + rest % 10))) (sym same)

-- room for the digits that are left
pub room_left : (rest : ℕ) → 10 ≤ rest → rest < 2 ^ 64
    → length (decimal rest) ≡ length (decimal (rest / 10)) + 1
room_left rest ten small =
    ap length (decimal_step rest ten small)
    ∙ length-append (decimal (rest / 10)) ((48 + rest % 10) ∷ [])

pub last_digit_written : (n rest from : ℕ) (digits : List ℕ) → rest < 10 → from < length digits
    → decimal n ≡ decimal rest ++ drop (from + 1) digits
    → drop from (set digits from (48 + rest)) ≡ decimal n
last_digit_written n rest from digits small within so_far =
    drop-set digits from (48 + rest) within
    ∙ ap (λ ds. ds ++ drop (from + 1) digits) (sym (decimal_digit rest small))
    ∙ sym so_far

-- all of a front of digits are digits
digits_front : (digits : List ℕ) (i : ℕ) → list_all is_ascii_digit digits ≡ true
    → list_all is_ascii_digit (take i digits) ≡ true
digits_front digits i h =
    let split = sym (list_all-append is_ascii_digit (take i digits) (drop i digits))
    ∙ ap (list_all is_ascii_digit) (take-append-drop i digits) in
    (and_parts _ _ (split ∙ h)).0

-- digits by std's words
pub all_digits : IsNumeralModel (λ ds. list_all is_ascii_digit ds ≡ true) (digits_value 10)
all_digits = numerals_by_value _ (search rules)

-- a digit
pub digit_at : (digits : List ℕ) (i : ℕ) → list_all is_ascii_digit digits ≡ true → i < length digits
    → IsInRange 48 57 (get_or digits i 0)
digit_at digits i h within = std_digit_at digits i (all_digits.to digits h) within

-- a front of less than 19 digits leaves room for one more in 64 bits
pub front_short : (digits : List ℕ) (i : ℕ) → list_all is_ascii_digit digits ≡ true → i ≤ 18
    → digits_value 10 (take i digits) < 10 ^ 18
front_short digits i h short = digits_value_short all_digits (take i digits) 18
    (digits_front digits i h) (omega (arith, length-take i digits))

-- one more digit
pub front_more : (digits : List ℕ) (i : ℕ) → list_all is_ascii_digit digits ≡ true
    → i < length digits
    → digits_value 10 (take (i + 1) digits) ≡ digits_value 10
    (take i digits) * 10 + (get_or digits i 0 - 48)
front_more digits i h within =
    let digit = digit_value_digit (get_or digits i 0) (digit_at digits i h within) in
    digits_value_more 10 digits i within
    ∙ ap (λ d. digits_value 10 (take i digits) * 10 + d) (omega (arith, digit))

-- what the test of `number_in_digits` says
record DigitFacts (text : List ℕ) : Type 0 where
  some : 0 < length text
  short : length text ≤ 19
  digits : list_all is_ascii_digit text ≡ true
  small : digits_value 10 text < limit

abbrev digits_test : List ℕ → Bool
digits_test text = nat_lt 0 (length text) && nat_le (length text) 19
    && list_all is_ascii_digit text && nat_lt (digits_value 10 text) limit

digit_facts : (text : List ℕ) → digits_test text ≡ true → DigitFacts text
digit_facts text h =
    let a = and_parts _ _ h in
    let b = and_parts _ _ a.0 in
    let c = and_parts _ _ b.0 in
    record {
      some = ltb-true 0 (length text) c.0;
      short = leb-true (length text) 19 c.1;
      digits = b.1;
      small = ltb-true (digits_value 10 text) limit a.1;
    }

digits_test-true : (text : List ℕ) → DigitFacts text → digits_test text ≡ true
digits_test-true text d =
    and_from _ _
    (and_from _ _
    (and_from _ _ (lt-ltb 0 (length text) d.some) (le-leb (length text) 19 d.short))
    d.digits)
    (lt-ltb (digits_value 10 text) limit d.small)

-- what the test of `plain_number` says
record PlainFacts (text : List ℕ) : Type 0 where
  small : digits_value 10 text < limit
  spelled : decimal (digits_value 10 text) ≡ text

abbrev plain_test : List ℕ → Bool
plain_test text =
    nat_lt (digits_value 10 text) limit && bytes_eq (decimal (digits_value 10 text)) text

plain_facts : (text : List ℕ) → plain_test text ≡ true → PlainFacts text
plain_facts text h =
    let a = and_parts _ _ h in
    record {
      small = ltb-true (digits_value 10 text) limit a.0;
      spelled = (bytes_eq-Decides (decimal (digits_value 10 text)) text).0 a.1;
    }

plain_test-true : (text : List ℕ) → PlainFacts text → plain_test text ≡ true
plain_test-true text p =
    and_from _ _ (lt-ltb (digits_value 10 text) limit p.small)
    ((bytes_eq-Decides (decimal (digits_value 10 text)) text).1 p.spelled)

-- a plain number is one in digits, and it is plain where no zero leads
digits-from_plain : (text : List ℕ) → PlainFacts text → DigitFacts text
digits-from_plain text p =
    let v = digits_value 10 text in
    let v_small : v < 2 ^ 63 = p.small in
    let wide : v < 2 ^ 64 = omega arith in
    let P : List ℕ → Type 0 =
    λ t. (0 < length t) × (length t ≤ 19) × (list_all is_ascii_digit t ≡ true) in
    let facts : P text = subst P p.spelled (
      decimal_nonempty v wide,
      length-decimal-le 19 v (omega arith) (omega arith) wide,
      digits_decimal all_digits v wide,
    ) in
    record { some = facts.0; short = facts.1; digits = facts.2; small = p.small }

plain-from_digits : (text : List ℕ) → DigitFacts text → (get_or text 0 0 ≡ 48 → length text ≡ 1)
    → PlainFacts text
plain-from_digits text d no_zero =
    let v_small : digits_value 10 text < 2 ^ 63 = d.small in
    record {
      small = d.small;
      spelled =
          decimal-digits_value all_digits text d.digits d.some no_zero (omega arith);
    }

same_answers : (a b : Bool) (v : ℕ) → (a ≡ true → b ≡ true) → (b ≡ true → a ≡ true)
    → cond a (Some v) None ≡ cond b (Some v) None
same_answers true b v to from = ap (λ t. cond t (Some v) None) (sym (to refl))
same_answers false true v to from = ap (λ t. cond t (Some v) None) (from refl)
same_answers false false v to from = refl

-- no zero leads: both ways of reading agree
pub plain_where_no_zero_leads : (text : List ℕ) → (get_or text 0 0 ≡ 48 → length text ≤ 1)
    → number_in_digits text ≡ plain_number text
plain_where_no_zero_leads text no_zero =
    same_answers (digits_test text) (plain_test text) (digits_value 10 text)
    (λ h. let d = digit_facts text h in
    plain_test-true text
    (plain-from_digits text d (λ first_zero. omega (arith, no_zero first_zero, d.some))))
    (λ h. digits_test-true text (digits-from_plain text (plain_facts text h)))

-- decimal digits that begin with a zero are just that
lone_zero : (v : ℕ) → v < 2 ^ 64 → get_or (decimal v) 0 0 ≡ 48 → length (decimal v) ≡ 1
lone_zero zero small h = ap length (decimal_digit 0 (omega arith))
lone_zero (suc v) small h = absurd (omega (arith, first_decimal (suc v) (omega arith) small, h))

-- a zero leads: the number isn't plain
pub zero_leads : (text : List ℕ) → 1 < length text → get_or text 0 0 ≡ 48 → None ≡ plain_number text
zero_leads text long first_zero =
    let no : plain_test text ≡ true → ⊥ = λ h.
    let p = plain_facts text h in
    let v_small : digits_value 10 text < 2 ^ 63 = p.small in
    let lone = lone_zero (digits_value 10 text) (omega arith)
    (ap (λ t. get_or t 0 0) p.spelled ∙ first_zero) in
    absurd (omega (arith, lone, ap length p.spelled)) in
    sym (cond-false (plain_test text) (Some (digits_value 10 text)) None
    (false_from_ne_true (plain_test text) no))

-- what is written is read, both ways
pub plain_number-decimal : (n : ℕ) → n < limit → plain_number (decimal n) ≡ Some n
plain_number-decimal n small =
    let n_small : n < 2 ^ 63 = small in
    let value : digits_value 10 (decimal n) ≡ n = digits_value-decimal all_digits n (omega arith) in
    let facts : PlainFacts (decimal n) = record {
      small =
          subst (λ v. v < limit) (sym value) small;
      spelled = ap decimal value;
    } in
    cond-true (plain_test (decimal n)) (Some (digits_value 10 (decimal n))) None
    (plain_test-true (decimal n) facts) ∙ ap Some value

pub number_in_digits-decimal : (n : ℕ) → n < limit → number_in_digits (decimal n) ≡ Some n
number_in_digits-decimal n small =
    let n_small : n < 2 ^ 63 = small in
    let no_zero : get_or (decimal n) 0 0 ≡ 48 → length (decimal n) ≤ 1 =
    λ first_zero. omega (arith, lone_zero n (omega arith) first_zero) in
    plain_where_no_zero_leads (decimal n) no_zero ∙ plain_number-decimal n small

-- what is read plain is spelled so
pub plain_number-Some : (text : List ℕ) (n : ℕ) → plain_number text ≡ Some n
    → (decimal n ≡ text) × (n < limit)
plain_number-Some text n h =
    let parts = cond_some (plain_test text) (digits_value 10 text) n h in
    let p = plain_facts text parts.0 in
    (ap decimal (sym parts.1) ∙ p.spelled, subst (λ v. v < limit) parts.1 p.small)
