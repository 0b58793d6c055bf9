-- A suffix is a word.
use Rattle.std.proofs.Common.{◌≡◌, ℕ, ◌<◌, ◌≤◌, true, List, [], ◌∷◌, length, refl, arith}
use Rattle.std.specs.Prelude.{IsTrue, ◌||◌, ◌==◌, nat_le, count_by}
use Rattle.std.specs.List.{list_all}
use Rattle.std.specs.Char.{is_ascii_digit}
use Rattle.std.specs.Str.{IsAscii}
use Rattle.std.proofs.lemmas.Str.{IsUtf8-from_ascii}
use Rattle.std.proofs.lemmas.Str.Ascii.{IsAscii-nil, IsAscii-cons}
use Rattle.std.proofs.lemmas.Bool.{leb-true, and_parts, and_from}
use Rattle.std.proofs.lemmas.Bool.Decides.{nat_tests}
use Rattle.chk_bytes.specs.Words.{is_word, is_word_byte}
use Rattle.chk_bytes.proofs.WordLemmas.{is_word-from_facts}
use Rattle.chk_site.specs.Suffixes.{is_suffix, is_date, is_date_byte}

date_byte_ascii : (b : ℕ) → is_date_byte b ≡ true → b < 128
date_byte_ascii b h = grind (arith, nat_tests)

date_byte_word : (b : ℕ) → is_date_byte b ≡ true → is_word_byte b ≡ true
date_byte_word b h = grind (arith, nat_tests)

digit_date : (b : ℕ) → is_ascii_digit b ≡ true → is_date_byte b ≡ true
digit_date b h = rw h refl

lead_ascii : (b : ℕ) → (b == 46 || b == 45) ≡ true → b < 128
lead_ascii b h = grind (arith, nat_tests)

lead_word : (b : ℕ) → (b == 46 || b == 45) ≡ true → is_word_byte b ≡ true
lead_word b h = grind (arith, nat_tests)

all_ascii : (text : List ℕ) → list_all is_date_byte text ≡ true → IsAscii text
all_ascii [] h = IsAscii-nil
all_ascii (b ∷ text) h =
    let p = and_parts (is_date_byte b) (list_all is_date_byte text) h in
    IsAscii-cons b text (date_byte_ascii b p.0) (all_ascii text p.1)

all_word : (text : List ℕ) → list_all is_date_byte text ≡ true → list_all is_word_byte text ≡ true
all_word [] h = refl
all_word (b ∷ text) h =
    let p = and_parts (is_date_byte b) (list_all is_date_byte text) h in
    and_from (is_word_byte b) (list_all is_word_byte text) (date_byte_word b p.0) (all_word text p.1)

-- a date's length, and that it has only such bytes
date_facts : (text : List ℕ) → is_date text ≡ true → (length text ≤ 32) × (list_all is_date_byte text ≡ true)
date_facts [] h = cc
date_facts (b ∷ text) h =
    let a = and_parts _ (nat_le 7 (count_by is_ascii_digit text)) h in
    let c = and_parts _ (list_all is_date_byte text) a.0 in
    let d = and_parts _ (nat_le (length text) 31) c.0 in
    let e = and_parts (is_ascii_digit b) _ d.0 in
    let short = leb-true (length text) 31 d.1 in
    (omega arith, and_from (is_date_byte b) (list_all is_date_byte text) (digit_date b e.0) c.1)

pub suffix_is_word : (text : List ℕ) → is_suffix text ≡ true → IsTrue (is_word text)
suffix_is_word [] h = cc
suffix_is_word (b ∷ text) h =
    let p = and_parts (b == 46 || b == 45) (is_date text) h in
    let facts = date_facts text p.1 in
    is_word-from_facts (b ∷ text) (record {
      some_byte = omega arith;
      at_most = omega (arith, facts.0);
      word_bytes = and_from (is_word_byte b) (list_all is_word_byte text) (lead_word b p.0) (all_word text facts.1);
      utf8 = IsUtf8-from_ascii (b ∷ text) (IsAscii-cons b text (lead_ascii b p.0) (all_ascii text facts.1));
    })
