-- Stems: their bytes, and how they are read back.
use Rattle.std.proofs.Common.{◌≡◌, ℕ, ◌^◌, ◌<◌, ◌≤◌, not, true, List, [], ◌∷◌, ◌++◌, Option, Some, None, length, length-append, decimal, refl, sym, ap, ◌∙◌, subst, arith}
use Rattle.std.specs.Prelude.{IsTrue, SomeIff, ◌==◌}
use Rattle.std.specs.Char.{is_ascii_digit}
use Rattle.std.specs.List.{list_all}
use Rattle.std.specs.Str.{IsUtf8, IsAscii}
use Rattle.std.specs.Str.Parse.{digits_value}
use Rattle.std.proofs.lemmas.Str.{IsUtf8-from_ascii}
use Rattle.std.proofs.lemmas.Str.Ascii.{IsAscii-nil, IsAscii-cons}
use Rattle.std.proofs.lemmas.Bool.{and_parts, and_from, ltb-true, leb-true}
use Rattle.std.proofs.lemmas.Bool.Decides.{nat_tests}
use Rattle.std.proofs.lemmas.Option.{none-some, same_Some}
use Rattle.std.proofs.lemmas.Fmt.{digits_decimal, digits_value-decimal, length-decimal-le}
use Rattle.chk_bytes.specs.Numbers.{limit, plain_number}
use Rattle.chk_bytes.specs.Words.{is_word, lacks, SplitsAt, parts_at, spelling}
use Rattle.chk_bytes.specs.Stems.{Stem, stem_of, is_stem_letter, is_collector, is_count, is_stem, stem_text, stem_of_parts, read_stem}
use Rattle.chk_bytes.proofs.DecimalLemmas.{all_digits, plain_number-decimal, plain_number-Some}
use Rattle.chk_bytes.proofs.PartLemmas.{parts_at-whole, parts_at-front, lacks-separator, same_split}
use Rattle.chk_bytes.proofs.WordLemmas.{is_plain_byte, plain_word, plain-append}
use Rattle.chk_bytes.proofs.SpellingLemmas.{spelling-Some, spelling-spelled}

stem_letter_ascii : (b : ℕ) → is_stem_letter b ≡ true → b < 128
stem_letter_ascii b h = grind (arith, nat_tests)

pub stem_letters_ascii : (name : List ℕ) → list_all is_stem_letter name ≡ true → IsAscii name
stem_letters_ascii [] h = IsAscii-nil
stem_letters_ascii (b ∷ bs) h =
    let parts = and_parts (is_stem_letter b) (list_all is_stem_letter bs) h in
    IsAscii-cons b bs (stem_letter_ascii b parts.0) (stem_letters_ascii bs parts.1)

-- what a stem is, each part by its name
pub record StemFacts (x : Stem) : Type 0 where
  pub some_letter : 0 < length x.collector
  pub at_most : length x.collector ≤ 64
  pub letters : list_all is_stem_letter x.collector ≡ true
  pub born_from : 0 < x.born
  pub born_below : x.born < limit
  pub number_from : 0 < x.number
  pub number_below : x.number < limit

pub stem_facts : (x : Stem) → IsTrue (is_stem x) → StemFacts x
stem_facts x h =
    let both = and_parts (is_collector x.collector) _ h in
    let name = and_parts _ _ both.0 in
    let sizes = and_parts _ _ name.0 in
    let counts = and_parts (is_count x.born) (is_count x.number) both.1 in
    let born = and_parts _ _ counts.0 in
    let number = and_parts _ _ counts.1 in
    record {
      some_letter = ltb-true 0 (length x.collector) sizes.0;
      at_most = leb-true (length x.collector) 64 sizes.1;
      letters = name.1;
      born_from = ltb-true 0 x.born born.0;
      born_below = ltb-true x.born limit born.1;
      number_from = ltb-true 0 x.number number.0;
      number_below = ltb-true x.number limit number.1;
    }

pub collector_utf8 : (x : Stem) → IsTrue (is_stem x) → IsUtf8 x.collector
collector_utf8 x h =
    IsUtf8-from_ascii x.collector (stem_letters_ascii x.collector (stem_facts x h).letters)

-- neither a name nor digits hold a dot
letter_no_dot : (b : ℕ) → is_stem_letter b ≡ true → not (b == 46) ≡ true
letter_no_dot b h = grind (arith, nat_tests)

name_lacks_dot : (name : List ℕ) → list_all is_stem_letter name ≡ true → IsTrue (lacks 46 name)
name_lacks_dot [] h = refl
name_lacks_dot (b ∷ bs) h =
    let parts = and_parts (is_stem_letter b) (list_all is_stem_letter bs) h in
    and_from _ _ (letter_no_dot b parts.0) (name_lacks_dot bs parts.1)

digit_no_dot : (b : ℕ) → is_ascii_digit b ≡ true → not (b == 46) ≡ true
digit_no_dot b h = grind (arith, nat_tests)

digits_lack_dot : (digits : List ℕ) → list_all is_ascii_digit digits ≡ true
    → IsTrue (lacks 46 digits)
digits_lack_dot [] h = refl
digits_lack_dot (b ∷ bs) h =
    let parts = and_parts (is_ascii_digit b) (list_all is_ascii_digit bs) h in
    and_from _ _ (digit_no_dot b parts.0) (digits_lack_dot bs parts.1)

decimal_lacks_dot : (n : ℕ) → n < limit → IsTrue (lacks 46 (decimal n))
decimal_lacks_dot n small =
    let n_small : n < 2 ^ 63 = small in
    digits_lack_dot (decimal n) (digits_decimal all_digits n (omega arith))

pub decimal_value : (n : ℕ) → n < limit → digits_value 10 (decimal n) ≡ n
decimal_value n small = let n_small : n < 2 ^ 63 =
    small in digits_value-decimal all_digits n (omega arith)

-- the parts of a stem's text
stem_parts : (x : Stem) → StemFacts x
    → parts_at 46 (stem_text x) ≡ x.collector ∷ decimal x.born ∷ decimal x.number ∷ []
stem_parts x s =
    parts_at-front 46 x.collector (decimal x.born ++ 46 ∷ decimal x.number)
    (name_lacks_dot x.collector s.letters)
    ∙ ap (λ ps. x.collector ∷ ps)
    (parts_at-front 46 (decimal x.born) (decimal x.number)
    (decimal_lacks_dot x.born s.born_below))
    ∙ ap (λ ps. x.collector ∷ decimal x.born ∷ ps)
    (parts_at-whole 46 (decimal x.number) (decimal_lacks_dot x.number s.number_below))

-- a stem's text is read back
pub read_stem-stem_text : (x : Stem) → IsTrue (is_stem x) → read_stem (stem_text x) ≡ Some x
unfolding read_stem
read_stem-stem_text x h =
    let s = stem_facts x h in
    let read_born : digits_value 10 (decimal x.born) ≡ x.born = decimal_value x.born s.born_below in
    let read_number : digits_value 10 (decimal x.number) ≡ x.number =
    decimal_value x.number s.number_below in
    let guess : stem_of_parts (parts_at 46 (stem_text x)) ≡ x =
    ap stem_of_parts (stem_parts x s)
    ∙ ap (λ b. stem_of x.collector b (digits_value 10 (decimal x.number))) read_born
    ∙ ap (stem_of x.collector x.born) read_number in
    ap (λ g. spelling is_stem stem_text g (stem_text x)) guess
    ∙ spelling-spelled is_stem stem_text x (stem_text x) h refl

-- what is read is a stem, and is spelled so
pub read_stem-Some : (text : List ℕ) (x : Stem) → read_stem text ≡ Some x
    → (stem_text x ≡ text) × IsTrue (is_stem x)
unfolding read_stem
read_stem-Some text x h =
    let s = spelling-Some is_stem stem_text (stem_of_parts (parts_at 46 text)) x text h in
    (s.2, s.1)

-- a text that is no stem's spelling isn't read
no_stem : (text : List ℕ) → ((x : Stem) → IsTrue (is_stem x) → stem_text x ≡ text → ⊥)
    → None ≡ read_stem text
no_stem text refused = go (read_stem text) refl
  where
    go : (r : Option Stem) → read_stem text ≡ r → None ≡ r
    go None h = refl
    go (Some x) h = let s = read_stem-Some text x h in absurd (refused x s.1 s.0)

-- where the text is split at its first dot, it is behind the name
at_name : (x : Stem) (text name numbers : List ℕ) → IsTrue (is_stem x) → stem_text x ≡ text
    → SplitsAt 46 text name numbers
    → (x.collector ≡ name) × (decimal x.born ++ 46 ∷ decimal x.number ≡ numbers)
at_name x text name numbers h spelled split =
    same_split 46 x.collector (decimal x.born ++ 46 ∷ decimal x.number) name numbers
    (name_lacks_dot x.collector (stem_facts x h).letters) split.front_lacks (spelled ∙ split.whole)

at_born : (x : Stem) (numbers born number : List ℕ) → IsTrue (is_stem x)
    → decimal x.born ++ 46 ∷ decimal x.number ≡ numbers
    → SplitsAt 46 numbers born number → (decimal x.born ≡ born) × (decimal x.number ≡ number)
at_born x numbers born number h spelled split =
    same_split 46 (decimal x.born) (decimal x.number) born number
    (decimal_lacks_dot x.born (stem_facts x h).born_below) split.front_lacks (spelled ∙ split.whole)

-- the ways in which a text is refused
pub no_dot : (text : List ℕ) → IsTrue (lacks 46 text) → None ≡ read_stem text
no_dot text lacking = no_stem text (λ x h spelled.
    lacks-separator 46 x.collector (decimal x.born ++ 46 ∷ decimal x.number)
    (subst (λ t. IsTrue (lacks 46 t)) (sym spelled) lacking))

pub one_dot : (text name numbers : List ℕ) → SplitsAt 46 text name numbers
    → IsTrue (lacks 46 numbers) → None ≡ read_stem text
one_dot text name numbers split lacking = no_stem text (λ x h spelled.
    let at = at_name x text name numbers h spelled split in
    lacks-separator 46 (decimal x.born) (decimal x.number)
    (subst (λ t. IsTrue (lacks 46 t)) (sym at.1) lacking))

pub no_born : (text name numbers born number : List ℕ) → SplitsAt 46 text name numbers
    → SplitsAt 46 numbers born number
    → plain_number born ≡ None → None ≡ read_stem text
no_born text name numbers born number split split' refused = no_stem text (λ x h spelled.
    let at = at_born x numbers born number h (at_name x text name numbers h spelled split).1
    split' in
    none-some x.born
    (sym refused ∙ ap plain_number (sym at.0)
    ∙ plain_number-decimal x.born (stem_facts x h).born_below))

pub no_number : (text name numbers born number : List ℕ) → SplitsAt 46 text name numbers
    → SplitsAt 46 numbers born number
    → plain_number number ≡ None → None ≡ read_stem text
no_number text name numbers born number split split' refused = no_stem text (λ x h spelled.
    let at = at_born x numbers born number h (at_name x text name numbers h spelled split).1
    split' in
    none-some x.number
    (sym refused ∙ ap plain_number (sym at.1)
    ∙ plain_number-decimal x.number (stem_facts x h).number_below))

pub no_text : (text name numbers : List ℕ) → SplitsAt 46 text name numbers → (IsUtf8 name → ⊥)
    → None ≡ read_stem text
no_text text name numbers split refused = no_stem text (λ x h spelled.
    refused (subst IsUtf8 (at_name x text name numbers h spelled split).0 (collector_utf8 x h)))

-- the three parts read make the stem, or none
pub three_parts : (text name numbers born number : List ℕ) (b n : ℕ) (r : Option Stem)
    → SplitsAt 46 text name numbers → SplitsAt 46 numbers born number
    → plain_number born ≡ Some b → plain_number number ≡ Some n
    → SomeIff r (IsTrue (is_stem (stem_of name b n))) (stem_of name b n) → r ≡ read_stem text
three_parts text name numbers born number b n None split split' born_is number_is refused =
    no_stem text (λ x h spelled.
    let first = at_name x text name numbers h spelled split in
    let at = at_born x numbers born number h first.1 split' in
    let s = stem_facts x h in
    let same_born : x.born ≡ b = same_Some x.born b
    (sym (plain_number-decimal x.born s.born_below) ∙ ap plain_number at.0 ∙ born_is) in
    let same_number : x.number ≡ n = same_Some x.number n
    (sym (plain_number-decimal x.number s.number_below) ∙ ap plain_number at.1 ∙ number_is) in
    let same : x ≡ stem_of name b n =
    ap (λ c. stem_of c x.born x.number) first.0 ∙ ap (λ m. stem_of name m x.number) same_born
    ∙ ap (stem_of name b) same_number in
    refused (subst (λ y. IsTrue (is_stem y)) same h))
three_parts text name numbers born number b n (Some y) split split' born_is number_is made =
    let born_text = (plain_number-Some born b born_is).0 in
    let number_text = (plain_number-Some number n number_is).0 in
    let spelled : stem_text (stem_of name b n) ≡ text =
    ap (λ t. name ++ 46 ∷ (t ++ 46 ∷ decimal n)) born_text
    ∙ ap (λ t. name ++ 46 ∷ (born ++ 46 ∷ t)) number_text
    ∙ ap (λ t. name ++ 46 ∷ t) (sym split'.whole)
    ∙ sym split.whole in
    ap Some made.1 ∙ sym (read_stem-stem_text (stem_of name b n) made.0) ∙ ap read_stem spelled

-- a stem's text is a word of at most 104 bytes
letter_plain : (b : ℕ) → is_stem_letter b ≡ true → is_plain_byte b ≡ true
letter_plain b h = grind (arith, nat_tests)

letters_plain : (name : List ℕ) → list_all is_stem_letter name ≡ true
    → list_all is_plain_byte name ≡ true
letters_plain [] h = refl
letters_plain (b ∷ bs) h =
    let parts = and_parts (is_stem_letter b) (list_all is_stem_letter bs) h in
    and_from _ _ (letter_plain b parts.0) (letters_plain bs parts.1)

digit_plain : (b : ℕ) → is_ascii_digit b ≡ true → is_plain_byte b ≡ true
digit_plain b h = grind (arith, nat_tests)

digits_plain : (digits : List ℕ) → list_all is_ascii_digit digits ≡ true
    → list_all is_plain_byte digits ≡ true
digits_plain [] h = refl
digits_plain (b ∷ bs) h =
    let parts = and_parts (is_ascii_digit b) (list_all is_ascii_digit bs) h in
    and_from _ _ (digit_plain b parts.0) (digits_plain bs parts.1)

pub decimal_plain : (n : ℕ) → n < 2 ^ 64 → list_all is_plain_byte (decimal n) ≡ true
decimal_plain n small = digits_plain (decimal n) (digits_decimal all_digits n small)

pub collector_plain : (x : Stem) → IsTrue (is_stem x) → list_all is_plain_byte x.collector ≡ true
collector_plain x h = letters_plain x.collector (stem_facts x h).letters

pub stem_text_plain : (x : Stem) → IsTrue (is_stem x) → list_all is_plain_byte (stem_text x) ≡ true
stem_text_plain x h =
    let s = stem_facts x h in
    let born_small : x.born < 2 ^ 63 = s.born_below in
    let number_small : x.number < 2 ^ 63 = s.number_below in
    let numbers = plain-append (decimal x.born) (46 ∷ decimal x.number)
    (decimal_plain x.born (omega arith)) (decimal_plain x.number (omega arith)) in
    plain-append x.collector (46 ∷ (decimal x.born ++ 46 ∷ decimal x.number))
    (collector_plain x h) numbers

pub length-stem_text : (x : Stem) → IsTrue (is_stem x)
    → (0 < length (stem_text x)) × (length (stem_text x) ≤ 104)
length-stem_text x h =
    let s = stem_facts x h in
    let born_small : x.born < 2 ^ 63 = s.born_below in
    let number_small : x.number < 2 ^ 63 = s.number_below in
    let born_length = length-decimal-le 19 x.born (omega arith) (omega arith) (omega arith) in
    let number_length = length-decimal-le 19 x.number (omega arith) (omega arith) (omega arith) in
    let whole = length-append x.collector (46 ∷ (decimal x.born ++ 46 ∷ decimal x.number)) in
    let numbers = length-append (decimal x.born) (46 ∷ decimal x.number) in (
      omega (arith, whole, s.some_letter),
      omega
          (arith, whole, numbers, born_length, number_length, s.at_most),
    )

pub collector_word : (x : Stem) → IsTrue (is_stem x) → IsTrue (is_word x.collector)
collector_word x h =
    let s = stem_facts x h in
    plain_word x.collector (collector_plain x h) s.some_letter (omega (arith, s.at_most))
