-- A line of good words with one space between each two.
use Rattle.std.proofs.Common.{◌≡◌, ℕ, zero, suc, ◌+◌, ◌-◌, ◌<◌, ◌≤◌, Bool, true, false, not, eqb, List, [], ◌∷◌, length, drop, refl, subst, ap, ◌∙◌, inl, inr, arith, length-append, length-take}
use Rattle.std.specs.Prelude.{filter, bytes_eq}
use Rattle.std.specs.List.{slice_split, onto_first, list_all, All}
use Rattle.std.specs.Str.{IsUtf8}
use Rattle.std.proofs.lemmas.Bool.{cases_Bool, and_parts, and_from, false_from_ne_true, ltb-true, ne_eqb, le-ltb}
use Rattle.std.proofs.lemmas.List.Elements.{All-nil, All-cons}
use Rattle.std.proofs.lemmas.List.Folds.{list_all-append}
use Rattle.std.proofs.lemmas.List.Splits.{slice_split_none, slice_split_at}
use Rattle.std.proofs.lemmas.Slice.Eq.{bytes_eq-Decides}
use Rattle.std.proofs.lemmas.Str.{IsUtf8-append, is_utf8-from_IsUtf8, IsUtf8-nil}
use lib.Utf8.{encode}
use Rattle.chk_bytes.specs.Words.{is_word, is_word_byte}
use Rattle.chk_bytes.proofs.WordLemmas.{word_facts}
use Rattle.chk_control.specs.LineWords.{is_gap, has_byte, words_of, without_return}
use Rattle.chk_control.specs.Lines.{meaning_of_words, meaning_of}
use Rattle.chk_control.specs.Spellings.{spaced_line}

-- all are words
abbrev pub are_words : List (List ℕ) → Bool
are_words words = list_all is_word words

-- ---- the words are found again

no_gap : (b : ℕ) → is_word_byte b ≡ true → is_gap b ≡ false
no_gap b good =
    let parts = and_parts _ _ good in
    let above = ltb-true 32 b parts.0 in
    let not_space : (b ≡ 32 → ⊥) = λ e. omega arith in
    let not_tab : (b ≡ 9 → ⊥) = λ e. omega arith in
    rw (ne_eqb b 32 not_space, ne_eqb b 9 not_tab) refl

no_gaps : (word : List ℕ) → list_all is_word_byte word ≡ true → All (λ b. is_gap b ≡ false) word
no_gaps [] good = All-nil (λ b. is_gap b ≡ false)
no_gaps (b ∷ word) good =
    let parts = and_parts _ _ good in
    All-cons (λ b. is_gap b ≡ false) b word (no_gap b parts.0) (no_gaps word parts.1)

word_has_byte : (word : List ℕ) → 0 < length word → has_byte word ≡ true
word_has_byte [] some = absurd (omega arith)
word_has_byte (b ∷ word) some = refl

words_of_spaced : (words : List (List ℕ)) → are_words words ≡ true
    → words_of (spaced_line words) ≡ words
unfolding words_of
words_of_spaced [] good = refl
words_of_spaced (word ∷ []) good =
    let facts = word_facts word (and_parts _ _ good).0 in
    ap (filter has_byte) (slice_split_none is_gap word (no_gaps word facts.word_bytes))
    ∙ rw (word_has_byte word facts.some_byte) refl
words_of_spaced (word ∷ next ∷ words) good =
    let parts = and_parts _ _ good in
    let facts = word_facts word parts.0 in
    ap (filter has_byte) (slice_split_at is_gap word 32 (spaced_line (next ∷ words))
    (no_gaps word facts.word_bytes) refl)
    ∙ rw (word_has_byte word facts.some_byte)
    (ap (λ rest. word ∷ rest) (words_of_spaced (next ∷ words) parts.1))

-- ---- it is UTF-8

space_utf8 : IsUtf8 (32 ∷ [])
unfolding encode
space_utf8 = (32 ∷ [], (refl, refl))

spaced_utf8 : (words : List (List ℕ)) → are_words words ≡ true → IsUtf8 (spaced_line words)
spaced_utf8 [] good = IsUtf8-nil
spaced_utf8 (word ∷ []) good = (word_facts word (and_parts _ _ good).0).utf8
spaced_utf8 (word ∷ next ∷ words) good =
    let parts = and_parts _ _ good in
    IsUtf8-append word (32 ∷ spaced_line (next ∷ words)) (word_facts word parts.0).utf8
    (IsUtf8-append (32 ∷ []) (spaced_line (next ∷ words)) space_utf8
    (spaced_utf8 (next ∷ words) parts.1))

-- ---- no carriage return is at its end

abbrev no_return : ℕ → Bool
no_return b = not (eqb b 13)

word_no_return : (word : List ℕ) → list_all is_word_byte word ≡ true
    → list_all no_return word ≡ true
word_no_return [] good = refl
word_no_return (b ∷ word) good =
    let parts = and_parts _ _ good in
    let above = ltb-true 32 b (and_parts _ _ parts.0).0 in
    let other : (b ≡ 13 → ⊥) = λ e. omega arith in
    rw (ne_eqb b 13 other) (word_no_return word parts.1)

spaced_no_return : (words : List (List ℕ)) → are_words words ≡ true
    → list_all no_return (spaced_line words) ≡ true
spaced_no_return [] good = refl
spaced_no_return (word ∷ []) good =
    word_no_return word (word_facts word (and_parts _ _ good).0).word_bytes
spaced_no_return (word ∷ next ∷ words) good =
    let parts = and_parts _ _ good in
    list_all-append no_return word (32 ∷ spaced_line (next ∷ words))
    ∙ and_from _ _ (word_no_return word (word_facts word parts.0).word_bytes)
    (spaced_no_return (next ∷ words) parts.1)

all_dropped : (p : ℕ → Bool) (n : ℕ) (bytes : List ℕ) → list_all p bytes ≡ true
    → list_all p (drop n bytes) ≡ true
all_dropped p zero bytes all = all
all_dropped p (suc n) [] all = refl
all_dropped p (suc n) (b ∷ bytes) all = all_dropped p n bytes (and_parts _ _ all).1

kept_whole : (line : List ℕ) → list_all no_return line ≡ true → without_return line ≡ line
kept_whole line all =
    let none : bytes_eq (drop (length line - 1) line) (13 ∷ []) ≡ false =
    false_from_ne_true _ (λ same.
    let ends = (bytes_eq-Decides (drop (length line - 1) line) (13 ∷ [])).0 same in
    let bad : list_all no_return (13 ∷ []) ≡ true =
    subst (λ bytes. list_all no_return bytes ≡ true) ends (all_dropped no_return _ line all) in
    absurd (cc)) in
    rw none refl

-- ---- so it means what its words mean

pub meaning_of_spaced : (words : List (List ℕ)) → are_words words ≡ true
    → length (spaced_line words) ≤ 16384
    → meaning_of (spaced_line words) ≡ meaning_of_words words
unfolding meaning_of
meaning_of_spaced words good short =
    let line = spaced_line words in
    let utf8 = is_utf8-from_IsUtf8 line (spaced_utf8 words good) in
    let whole = kept_whole line (spaced_no_return words good) in
    rw (le-ltb 16384 (length line) short, utf8)
    (ap meaning_of_words (ap words_of whole ∙ words_of_spaced words good))

-- ---- how long it is

-- the length of the words with one byte behind each
abbrev pub total_size : List (List ℕ) → ℕ
total_size [] = 0
total_size (word ∷ words) = length word + 1 + total_size words

-- only the last has none behind it
pub spaced_size : (words : List (List ℕ)) → length (spaced_line words) ≤ total_size words - 1
spaced_size [] = omega arith
spaced_size (word ∷ []) = omega arith
spaced_size (word ∷ next ∷ words) =
    omega (arith, length-append word (32 ∷ spaced_line (next ∷ words)), spaced_size (next ∷ words))

put_in_front : (b n : ℕ) (parts : List (List ℕ)) → total_size parts ≡ n + 1
    → total_size (onto_first b parts) ≡ n + 2
put_in_front b n [] size = absurd (omega arith)
put_in_front b n (part ∷ parts) size = omega arith

parts_size : (line : List ℕ) → total_size (slice_split is_gap line) ≡ length line + 1
parts_size [] = omega arith
parts_size (b ∷ line) = elim (cases_Bool (is_gap b)) [
  | inl gap ↦ rw gap (omega (arith, parts_size line))
  | inr other ↦ rw other
      (put_in_front b (length line) (slice_split is_gap line) (parts_size line) ∙ omega arith)
]

filtered_size : (parts : List (List ℕ)) → total_size (filter has_byte parts) ≤ total_size parts
filtered_size [] = omega arith
filtered_size ([] ∷ parts) = omega (arith, filtered_size parts)
filtered_size ((b ∷ part) ∷ parts) = omega (arith, filtered_size parts)

words_size : (line : List ℕ) → total_size (words_of line) ≤ length line + 1
unfolding words_of
words_size line = omega (arith, filtered_size (slice_split is_gap line), parts_size line)

return_size : (line : List ℕ) → length (without_return line) ≤ length line
return_size line = elim (cases_Bool (bytes_eq (drop (length line - 1) line) (13 ∷ []))) [
  | inl has ↦ rw has (omega (arith, length-take (length line - 1) line))
  | inr lacks ↦ rw lacks (omega arith)
]

-- a line isn't shorter than its words with one space between each two
pub line_size : (line : List ℕ)
    → length (spaced_line (words_of (without_return line))) ≤ length line
line_size line =
    let words = words_of (without_return line) in
    omega (arith, spaced_size words, words_size (without_return line), return_size line)
