-- The bytes of words, numbers and stems.
use Rattle.std.proofs.Common.{◌≡◌, ℕ, ◌+◌, Bool, true, false, ◌&&◌, IsTrue, List, [], ◌∷◌, ◌++◌, length, reverse, refl, ap, sym, ◌∙◌, arith, ◌≤◌, ◌<◌, ◌^◌, ◌*◌, ◌/◌, length-append}
use Rattle.std.specs.Prelude.{decimal, not, nat_lt, nat_le, ◌==◌}
use Rattle.std.specs.List.{list_all}
use Rattle.std.specs.Str.{IsUtf8, IsAscii}
use Rattle.std.proofs.lemmas.Str.{IsUtf8-from_ascii}
use Rattle.std.proofs.lemmas.Str.Ascii.{IsAscii-nil, IsAscii-cons}
use Rattle.std.specs.Char.{is_ascii_digit}
use Rattle.std.proofs.lemmas.Bool.{and_parts, and_from, or_right, ltb-true, leb-true, lt-ltb, le-leb, ne_eqb, or_from}
use Rattle.std.proofs.lemmas.Fmt.{length-decimal-le, digits_decimal, decimal_nonempty}
use Rattle.httparse.specs.Grammar.{is_value_byte, is_uri_byte, is_ows, trim_ows, skip_ows}
use Rattle.httparse.proofs.TrimLemmas.{trim_ows_space, skip_ows_no, AllPass-reverse}
use Rattle.std.proofs.lemmas.List.Folds.{list_all-append}
use Rattle.std.proofs.lemmas.Bool.Decides.{nat_tests}
use Rattle.std.proofs.lemmas.List.Sums.{AllPass-from_list_all, list_all-from_AllPass}
use Rattle.chk_bytes.specs.Numbers.{limit}
use Rattle.chk_bytes.specs.Words.{is_word_byte}
use Rattle.chk_bytes.specs.Stems.{Stem, is_stem, is_stem_letter, stem_text}
use Rattle.chk_bytes.proofs.DecimalLemmas.{all_digits, room_left}
use Rattle.chk_bytes.proofs.StemLemmas.{stem_facts, length-stem_text}
use Rattle.chk_http_grammar.specs.Messages.{query_text}

-- what passes one test passes a weaker one
pub list_all-weaker : (p q : ℕ → Bool) → ((b : ℕ) → p b ≡ true → q b ≡ true) → (xs : List ℕ) → list_all p xs ≡ true → list_all q xs ≡ true
list_all-weaker p q weaker [] pass = refl
list_all-weaker p q weaker (x ∷ xs) pass =
    let parts = and_parts (p x) (list_all p xs) pass in
    and_from (q x) (list_all q xs) (weaker x parts.0) (list_all-weaker p q weaker xs parts.1)

-- a byte above one and below another
abbrev pub is_between : ℕ → ℕ → ℕ → Bool
is_between low high b = nat_lt low b && nat_lt b high

pub is_between-wider : (low high low' high' b : ℕ) → low' ≤ low → high ≤ high' → is_between low high b ≡ true → is_between low' high' b ≡ true
is_between-wider low high low' high' b l h e =
    let parts = and_parts (nat_lt low b) (nat_lt b high) e in
    let above = ltb-true low b parts.0 in
    let below = ltb-true b high parts.1 in
    and_from (nat_lt low' b) (nat_lt b high') (lt-ltb low' b (omega arith)) (lt-ltb b high' (omega arith))

no_delete : (b : ℕ) → b < 127 → not (b == 127) ≡ true
no_delete b small = ap not (ne_eqb b 127 (λ e. omega arith))

pub value_from_word : (b : ℕ) → is_word_byte b ≡ true → is_value_byte b ≡ true
value_from_word b e =
    let parts = and_parts (nat_lt 32 b) (not (b == 127)) e in
    let above = ltb-true 32 b parts.0 in
    or_right (b == 9) (nat_le 32 b && not (b == 127)) (and_from (nat_le 32 b) (not (b == 127)) (le-leb 32 b (omega arith)) parts.1)

pub value_from_between : (b : ℕ) → is_between 31 127 b ≡ true → is_value_byte b ≡ true
value_from_between b e =
    let parts = and_parts (nat_lt 31 b) (nat_lt b 127) e in
    let above = ltb-true 31 b parts.0 in
    or_right (b == 9) (nat_le 32 b && not (b == 127))
    (and_from (nat_le 32 b) (not (b == 127)) (le-leb 32 b (omega arith)) (no_delete b (ltb-true b 127 parts.1)))

pub uri_from_between : (b : ℕ) → is_between 32 127 b ≡ true → is_uri_byte b ≡ true
uri_from_between b e =
    let parts = and_parts (nat_lt 32 b) (nat_lt b 127) e in
    and_from (nat_lt 32 b) (not (b == 127)) parts.0 (no_delete b (ltb-true b 127 parts.1))

pub utf8_from_between : (text : List ℕ) → list_all (is_between 32 127) text ≡ true → IsUtf8 text
utf8_from_between text pass = IsUtf8-from_ascii text (ascii text pass)
  where
    ascii : (text : List ℕ) → list_all (is_between 32 127) text ≡ true → IsAscii text
    ascii [] pass = IsAscii-nil
    ascii (b ∷ text) pass =
        let parts = and_parts (is_between 32 127 b) (list_all (is_between 32 127) text) pass in
        let below = ltb-true b 127 (and_parts (nat_lt 32 b) (nat_lt b 127) parts.0).1 in
        IsAscii-cons b text (omega arith) (ascii text parts.1)

-- ---- numbers

pub decimal_digits : (n : ℕ) → n < 2 ^ 64 → list_all is_ascii_digit (decimal n) ≡ true
decimal_digits n small = digits_decimal all_digits n small

between_from_digit : (b : ℕ) → is_ascii_digit b ≡ true → is_between 47 58 b ≡ true
between_from_digit b e =
    let parts = and_parts (nat_le 48 b) (nat_le b 57) e in
    let low = leb-true 48 b parts.0 in
    let high = leb-true b 57 parts.1 in
    and_from (nat_lt 47 b) (nat_lt b 58) (lt-ltb 47 b (omega arith)) (lt-ltb b 58 (omega arith))

pub decimal_between : (n : ℕ) → n < 2 ^ 64 → list_all (is_between 47 58) (decimal n) ≡ true
decimal_between n small =
    list_all-weaker is_ascii_digit (is_between 47 58) between_from_digit (decimal n) (decimal_digits n small)

-- a status code
pub three_digits : (n : ℕ) → 100 ≤ n → n < 1000 → length (decimal n) ≡ 3
three_digits n from below =
    let short = length-decimal-le 3 n (omega arith) (omega arith) (omega arith) in
    let one = room_left n (omega arith) (omega arith) in
    let two = room_left (n / 10) (omega arith) (omega arith) in
    let some = decimal_nonempty (n / 10 / 10) (omega arith) in
    omega arith

no_space : (b : ℕ) → is_between 32 127 b ≡ true → is_ows b ≡ false
no_space b e =
    let parts = and_parts (nat_lt 32 b) (nat_lt b 127) e in
    let above = ltb-true 32 b parts.0 in
    or_from (b == 32) (b == 9) (ne_eqb b 32 (λ h. omega arith)) (ne_eqb b 9 (λ h. omega arith))

skip_ows_none : (xs : List ℕ) → list_all (is_between 32 127) xs ≡ true → skip_ows xs ≡ xs
skip_ows_none [] pass = refl
skip_ows_none (b ∷ bs) pass =
    skip_ows_no refl (sym (no_space b (and_parts (is_between 32 127 b) (list_all (is_between 32 127) bs) pass).0))

-- a value that has no white space
pub trim_plain : (value : List ℕ) → list_all (is_between 32 127) value ≡ true → trim_ows (32 ∷ value) ≡ value
trim_plain value pass =
    let all = AllPass-reverse (is_between 32 127) value (AllPass-from_list_all (is_between 32 127) value pass) in
    trim_ows_space value (skip_ows_none value pass)
    (skip_ows_none (reverse value) (list_all-from_AllPass (is_between 32 127) (reverse value) all))

pub trim_decimal : (n : ℕ) → n < 2 ^ 64 → trim_ows (32 ∷ decimal n) ≡ decimal n
trim_decimal n small =
    trim_plain (decimal n)
    (list_all-weaker (is_between 47 58) (is_between 32 127) (λ b e. is_between-wider 47 58 32 127 b (omega arith) (omega arith) e)
    (decimal n) (decimal_between n small))

-- ---- stems

letter_between : (b : ℕ) → is_stem_letter b ≡ true → is_between 38 127 b ≡ true
letter_between b e = grind (arith, nat_tests)

-- each part passes, and so does the whole
pub pass_append : (p : ℕ → Bool) (xs ys : List ℕ) → list_all p xs ≡ true → list_all p ys ≡ true → list_all p (xs ++ ys) ≡ true
pass_append p xs ys a b = list_all-append p xs ys ∙ and_from (list_all p xs) (list_all p ys) a b

pub stem_between : (x : Stem) → IsTrue (is_stem x) → list_all (is_between 38 127) (stem_text x) ≡ true
stem_between x h =
    let f = stem_facts x h in
    let p = is_between 38 127 in
    let wider : (n : ℕ) → n < limit → list_all p (decimal n) ≡ true =
    λ n small. list_all-weaker (is_between 47 58) p (λ b e. is_between-wider 47 58 38 127 b (omega arith) (omega arith) e)
    (decimal n) (decimal_between n (omega arith)) in
    pass_append p x.collector (46 ∷ (decimal x.born ++ 46 ∷ decimal x.number))
    (list_all-weaker is_stem_letter p letter_between x.collector f.letters)
    (pass_append p (decimal x.born) (46 ∷ decimal x.number) (wider x.born f.born_below) (wider x.number f.number_below))

in_query : (x : Stem) → IsTrue (is_stem x) → list_all (is_between 37 127) (stem_text x) ≡ true
in_query x h =
    list_all-weaker (is_between 38 127) (is_between 37 127)
    (λ b e. is_between-wider 38 127 37 127 b (omega arith) (omega arith) e) (stem_text x) (stem_between x h)

pub query_between : (stems : List Stem) → IsTrue (list_all is_stem stems) → list_all (is_between 37 127) (query_text stems) ≡ true
query_between [] h = refl
query_between (x ∷ []) h = in_query x (and_parts (is_stem x) true h).0
query_between (x ∷ y ∷ stems) h =
    let parts = and_parts (is_stem x) (list_all is_stem (y ∷ stems)) h in
    pass_append (is_between 37 127) (stem_text x) (38 ∷ query_text (y ∷ stems)) (in_query x parts.0) (query_between (y ∷ stems) parts.1)

pub query_size : (stems : List Stem) → IsTrue (list_all is_stem stems) → length (query_text stems) ≤ 105 * length stems
query_size [] h = omega arith
query_size (x ∷ []) h = omega (arith, (length-stem_text x (and_parts (is_stem x) true h).0).1)
query_size (x ∷ y ∷ stems) h =
    let parts = and_parts (is_stem x) (list_all is_stem (y ∷ stems)) h in
    let rest : length (query_text (y ∷ stems)) ≤ 105 * length (y ∷ stems) = query_size (y ∷ stems) parts.1 in
    let whole : length (query_text (x ∷ y ∷ stems)) ≡ length (stem_text x) + (1 + length (query_text (y ∷ stems))) =
    length-append (stem_text x) (38 ∷ query_text (y ∷ stems)) ∙ (omega arith) in
    omega (arith, rest, whole, (length-stem_text x parts.0).1)
