-- The words of a line of UTF-8.
use Rattle.std.proofs.Common.{◌≡◌, ℕ, zero, suc, ◌+◌, ◌<◌, ◌≤◌, Bool, true, false, not, ◌&&◌, eqb, List, [], ◌∷◌, length, take, drop, get_or, refl, sym, subst, inl, inr, arith, length-drop, length-take}
use Rattle.std.specs.List.{All}
use Rattle.std.specs.Str.{IsUtf8, is_utf8, IsCharBoundary}
use Rattle.std.proofs.lemmas.Bool.{cases_Bool, cases_lt, lt-ltb, eqb-true}
use Rattle.std.proofs.lemmas.List.Elements.{All-nil, All-cons}
use Rattle.std.proofs.lemmas.List.Sums.{prefix_len-le-length, prefix_len_stops}
use Rattle.std.proofs.lemmas.Str.{IsUtf8-from_is_utf8, is_utf8-from_IsUtf8, IsUtf8-take, IsUtf8-drop, IsCharBoundary-end, IsCharBoundary-before_ascii, IsCharBoundary-after_ascii}
use Rattle.chk_bytes.specs.Words.{is_word}
use Rattle.chk_control.specs.LineWords.{is_gap, words_of, is_plain_word}
use Rattle.chk_control.proofs.LineWordLemmas.{gap_place, word_first, words_of-nil, words_of-gap}

gap_is_ascii : (b : ℕ) → is_gap b ≡ true → b < 128
gap_is_ascii b gap = elim (cases_Bool (eqb b 32)) [
  | inl space ↦ (let is = eqb-true b 32 space in omega arith)
  | inr other ↦ (let is = eqb-true b 9 (rw other at gap) in omega arith)
]

not_false : (b : Bool) → not b ≡ false → b ≡ true
not_false true h = refl
not_false false h = absurd (cc)

-- a line may be cut at its first gap
cut_at_gap : (line : List ℕ) → IsCharBoundary line (gap_place line)
cut_at_gap line = elim (cases_lt (gap_place line) (length line)) [
  | inl within ↦
      let gap = not_false (is_gap (get_or line (gap_place line) 0))
      (prefix_len_stops (λ b. not (is_gap b)) line 0 within) in
      IsCharBoundary-before_ascii line (gap_place line) within
      (gap_is_ascii (get_or line (gap_place line) 0) gap)
  | inr past ↦
      let size : length line ≡ gap_place line =
      omega (arith, prefix_len-le-length (λ b. not (is_gap b)) line) in
      subst (IsCharBoundary line) size (IsCharBoundary-end line)
]

-- of a text of UTF-8 with a byte the rest of the rule decides
abbrev IsTold : List ℕ → Type 0
IsTold word = is_word word ≡ is_plain_word word

and_true : (b : Bool) → (b && true) ≡ b
and_true true = refl
and_true false = refl

told : (word : List ℕ) → 0 < length word → IsUtf8 word → IsTold word
unfolding is_word
told word some utf8 =
    rw (lt-ltb 0 (length word) some, is_utf8-from_IsUtf8 word utf8) (and_true (is_plain_word word))

words_told : (n : ℕ) (line : List ℕ) → length line ≤ n → IsUtf8 line → All IsTold (words_of line)
words_told zero [] short utf8 = subst (All IsTold) (sym words_of-nil) (All-nil IsTold)
words_told zero (b ∷ line) short utf8 = absurd (omega arith)
words_told (suc n) [] short utf8 = subst (All IsTold) (sym words_of-nil) (All-nil IsTold)
words_told (suc n) (b ∷ line) short utf8 = elim (cases_Bool (is_gap b)) [
  | inl gap ↦
      let cut = IsCharBoundary-after_ascii (b ∷ line) 0 utf8 (omega arith) (gap_is_ascii b gap) in
      subst (All IsTold) (sym (words_of-gap b line gap)) (words_told n line (omega arith)
      (IsUtf8-drop (b ∷ line) 1 utf8 cut))
  | inr other ↦
      let size = gap_place (b ∷ line) in
      let some : size ≡ 1 + gap_place line = rw other refl in
      let cut = cut_at_gap (b ∷ line) in
      let word = take size (b ∷ line) in
      let rest = drop size (b ∷ line) in
      let word_some : 0 < length word = omega (arith, length-take size (b ∷ line)) in
      subst (All IsTold) (sym (word_first b line other))
      (All-cons IsTold word (words_of rest)
      (told word word_some (IsUtf8-take (b ∷ line) size utf8 cut))
      (words_told n rest (omega (arith, length-drop size (b ∷ line)))
      (IsUtf8-drop (b ∷ line) size utf8 cut)))
]

pub plain_words : (line : List ℕ) → is_utf8 line ≡ true
    → All (λ word. is_word word ≡ is_plain_word word) (words_of line)
plain_words line utf8 = words_told (length line) line (omega arith) (IsUtf8-from_is_utf8 line utf8)
