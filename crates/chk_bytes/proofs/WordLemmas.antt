-- Words: what each is known to be, and which texts are words.
use Rattle.std.proofs.Common.{◌≡◌, ℕ, ◌+◌, ◌<◌, ◌≤◌, ◌&&◌, Bool, true, not, List, [], ◌∷◌, ◌++◌, length, get_or, refl, ◌∙◌, suc, zero, arith, length-append}
use Rattle.std.specs.Prelude.{IsTrue, nat_lt, ◌==◌}
use Rattle.std.specs.Str.{IsUtf8, IsAscii}
use Rattle.std.specs.List.{list_all}
use Rattle.std.proofs.lemmas.Str.{IsUtf8-from_is_utf8, is_utf8-from_IsUtf8, IsUtf8-from_ascii, IsUtf8-append}
use Rattle.std.proofs.lemmas.Str.Ascii.{IsAscii-nil, IsAscii-cons}
use Rattle.std.proofs.lemmas.Bool.{leb-true, le-leb, ltb-true, lt-ltb, and_parts, and_from}
use Rattle.std.proofs.lemmas.Bool.Decides.{nat_tests}
use Rattle.std.proofs.lemmas.List.Folds.{list_all-append}
use Rattle.chk_bytes.specs.Words.{is_word, is_word_byte, lacks}

-- what a word is, each part by its name
pub record WordFacts (text : List ℕ) : Type 0 where
  pub some_byte : 0 < length text
  pub at_most : length text ≤ 4096
  pub word_bytes : list_all is_word_byte text ≡ true
  pub utf8 : IsUtf8 text

pub word_facts : (text : List ℕ) → IsTrue (is_word text) → WordFacts text
unfolding is_word
word_facts text h =
    let a = and_parts _ _ h in
    let b = and_parts _ _ a.0 in
    let c = and_parts _ _ b.0 in
    record {
      some_byte = ltb-true 0 (length text) c.0;
      at_most = leb-true (length text) 4096 c.1;
      word_bytes = b.1;
      utf8 = IsUtf8-from_is_utf8 text a.1;
    }

pub is_word-from_facts : (text : List ℕ) → WordFacts text → IsTrue (is_word text)
unfolding is_word
is_word-from_facts text w =
    and_from _ _
    (and_from _ _
    (and_from _ _ (lt-ltb 0 (length text) w.some_byte) (le-leb (length text) 4096 w.at_most))
    w.word_bytes)
    (is_utf8-from_IsUtf8 text w.utf8)

-- a byte of a word is above the space, and not the byte 127
word_byte_above : (b : ℕ) → is_word_byte b ≡ true → (32 < b) × (b ≡ 127 → ⊥)
word_byte_above b h = grind (arith, nat_tests)

word_bytes_above : (text : List ℕ) (i : ℕ) → list_all is_word_byte text ≡ true → i < length text
    → (32 < get_or text i 0) × (get_or text i 0 ≡ 127 → ⊥)
word_bytes_above [] i h within = absurd (omega arith)
word_bytes_above (b ∷ bs) zero h within =
    word_byte_above b (and_parts (is_word_byte b) (list_all is_word_byte bs) h).0
word_bytes_above (b ∷ bs) (suc i) h within =
    word_bytes_above bs i (and_parts (is_word_byte b) (list_all is_word_byte bs) h).1 (omega arith)

-- a word has neither spaces nor line ends
apart : (separator b : ℕ) → separator ≤ 32 → is_word_byte b ≡ true → not (b == separator) ≡ true
apart separator b low h = grind (arith, nat_tests)

word_bytes_lack : (separator : ℕ) (text : List ℕ) → separator ≤ 32
    → list_all is_word_byte text ≡ true → IsTrue (lacks separator text)
word_bytes_lack separator [] low h = refl
word_bytes_lack separator (b ∷ bs) low h =
    let parts = and_parts (is_word_byte b) (list_all is_word_byte bs) h in
    and_from _ _ (apart separator b low parts.0) (word_bytes_lack separator bs low parts.1)

pub word_lacks : (separator : ℕ) (text : List ℕ) → separator ≤ 32 → IsTrue (is_word text)
    → IsTrue (lacks separator text)
word_lacks separator text low h = word_bytes_lack separator text low (word_facts text h).word_bytes

-- two texts of word bytes, one after the other
word_bytes-append : (front back : List ℕ) → list_all is_word_byte front ≡ true
    → list_all is_word_byte back ≡ true
    → list_all is_word_byte (front ++ back) ≡ true
word_bytes-append front back h h' = list_all-append is_word_byte front back ∙ and_from _ _ h h'

-- a word with another behind it
pub is_word-append : (front back : List ℕ) → IsTrue (is_word front) → IsTrue (is_word back)
    → length front + length back ≤ 4096 → IsTrue (is_word (front ++ back))
is_word-append front back h h' fits =
    let w = word_facts front h in
    let v = word_facts back h' in
    is_word-from_facts (front ++ back) record {
      some_byte = omega (arith, w.some_byte, length-append front back);
      at_most = omega (arith, length-append front back);
      word_bytes = word_bytes-append front back w.word_bytes v.word_bytes;
      utf8 = IsUtf8-append front back w.utf8 v.utf8;
    }

-- a printed ASCII byte: a test that computes, for texts that are written out
abbrev pub is_plain_byte : ℕ → Bool
is_plain_byte b = nat_lt 32 b && nat_lt b 127

plain_byte_word : (b : ℕ) → is_plain_byte b ≡ true → is_word_byte b ≡ true
plain_byte_word b h = grind (arith, nat_tests)

plain_byte_ascii : (b : ℕ) → is_plain_byte b ≡ true → b < 128
plain_byte_ascii b h = grind (arith, nat_tests)

plain_word_bytes : (text : List ℕ) → list_all is_plain_byte text ≡ true
    → list_all is_word_byte text ≡ true
plain_word_bytes [] h = refl
plain_word_bytes (b ∷ bs) h =
    let parts = and_parts (is_plain_byte b) (list_all is_plain_byte bs) h in
    and_from _ _ (plain_byte_word b parts.0) (plain_word_bytes bs parts.1)

plain_ascii : (text : List ℕ) → list_all is_plain_byte text ≡ true → IsAscii text
plain_ascii [] h = IsAscii-nil
plain_ascii (b ∷ bs) h =
    let parts = and_parts (is_plain_byte b) (list_all is_plain_byte bs) h in
    IsAscii-cons b bs (plain_byte_ascii b parts.0) (plain_ascii bs parts.1)

pub plain_utf8 : (text : List ℕ) → list_all is_plain_byte text ≡ true → IsUtf8 text
plain_utf8 text h = IsUtf8-from_ascii text (plain_ascii text h)

pub plain-append : (front back : List ℕ) → list_all is_plain_byte front ≡ true
    → list_all is_plain_byte back ≡ true
    → list_all is_plain_byte (front ++ back) ≡ true
plain-append front back h h' = list_all-append is_plain_byte front back ∙ and_from _ _ h h'

-- a plain text is a word
pub plain_word : (text : List ℕ) → list_all is_plain_byte text ≡ true → 0 < length text
    → length text ≤ 4096 → IsTrue (is_word text)
plain_word text h some fits =
    is_word-from_facts text record {
      some_byte = some;
      at_most = fits;
      word_bytes = plain_word_bytes text h;
      utf8 = plain_utf8 text h;
    }

-- and so is a word with a plain text behind it or before it
pub plain_behind_word : (word plain : List ℕ) → IsTrue (is_word word)
    → list_all is_plain_byte plain ≡ true
    → length word + length plain ≤ 4096 → IsTrue (is_word (word ++ plain))
plain_behind_word word plain h h' fits =
    let w = word_facts word h in
    is_word-from_facts (word ++ plain) record {
      some_byte = omega (arith, w.some_byte, length-append word plain);
      at_most = omega (arith, length-append word plain);
      word_bytes = word_bytes-append word plain w.word_bytes (plain_word_bytes plain h');
      utf8 = IsUtf8-append word plain w.utf8 (plain_utf8 plain h');
    }
