-- The words of a line, from its front.
use Rattle.std.proofs.Common.{◌≡◌, ℕ, suc, ◌+◌, ◌<◌, ◌≤◌, Bool, true, false, not, cond, List, [], ◌∷◌, length, take, drop, Option, Some, None, refl, sym, subst, ap, ap₂, ◌∙◌, inl, inr, arith}
use Rattle.std.specs.Prelude.{filter, position, unwrap_or}
use Rattle.std.specs.List.{prefix_len, slice_split, onto_first}
use Rattle.std.proofs.lemmas.Bool.{cases_Bool, cases_lt, lt-ltb, le-ltb}
use Rattle.std.proofs.lemmas.List.Sums.{prefix_len-le-length}
use Rattle.std.proofs.Math.ListN.{drop_of_length-le}
use Rattle.chk_control.specs.LineWords.{is_gap, has_byte, words_of}

pub words_of-nil : words_of [] ≡ []
unfolding words_of
words_of-nil = refl

-- a gap at the front doesn't count
pub words_of-gap : (b : ℕ) (line : List ℕ) → is_gap b ≡ true → words_of (b ∷ line) ≡ words_of line
unfolding words_of
words_of-gap b line gap =
    ap (λ t. filter has_byte
    (cond t ([] ∷ slice_split is_gap line) (onto_first b (slice_split is_gap line)))) gap

-- where the first word begins, and where the first gap does, or the end
abbrev word_place : List ℕ → ℕ
word_place line = prefix_len (λ b. not (not (is_gap b))) line

abbrev pub gap_place : List ℕ → ℕ
gap_place line = prefix_len (λ b. not (is_gap b)) line

one_more : (n : ℕ) → suc n ≡ 1 + n
one_more n = omega arith

-- the gaps at the front don't count
words_behind_gaps : (line : List ℕ) → words_of line ≡ words_of (drop (word_place line) line)
words_behind_gaps [] = refl
words_behind_gaps (b ∷ line) = elim (cases_Bool (is_gap b)) [
  | inl gap ↦ rw gap (words_of-gap b line gap ∙ words_behind_gaps line
      ∙ ap (λ n. words_of (drop n (b ∷ line))) (one_more (word_place line)))
  | inr other ↦ rw other refl
]

-- the parts behind a gap at the front
abbrev parts_behind : List ℕ → List (List ℕ)
parts_behind [] = []
parts_behind (gap ∷ line) = slice_split is_gap line

parts_first : (line : List ℕ)
    → slice_split is_gap line ≡ take (gap_place line) line ∷ parts_behind
    (drop (gap_place line) line)
parts_first [] = refl
parts_first (b ∷ line) = elim (cases_Bool (is_gap b)) [
  | inl gap ↦ rw gap refl
  | inr other ↦ rw other (ap (onto_first b) (parts_first line)
      ∙ ap (λ n. take n (b ∷ line) ∷ parts_behind (drop n (b ∷ line))) (one_more (gap_place line)))
]

-- where a line ends or has a gap, its words are in the parts behind that
words_behind : (line : List ℕ)
    → filter has_byte (parts_behind (drop (gap_place line) line)) ≡ words_of
    (drop (gap_place line) line)
unfolding words_of
words_behind [] = refl
words_behind (b ∷ line) = elim (cases_Bool (is_gap b)) [
  | inl gap ↦ rw gap (sym (words_of-gap b line gap))
  | inr other ↦ rw other (
      let longer : drop (gap_place line) line ≡ drop (1 + gap_place line) (b ∷ line) =
      ap (λ n. drop n (b ∷ line)) (one_more (gap_place line)) in
      ap (λ rest. filter has_byte (parts_behind rest)) (sym longer) ∙ words_behind line
      ∙ ap words_of longer)
]

-- the first word of a line that begins with one
pub word_first : (b : ℕ) (line : List ℕ) → is_gap b ≡ false
    → words_of (b ∷ line) ≡ take (gap_place (b ∷ line)) (b ∷ line) ∷ words_of
    (drop (gap_place (b ∷ line)) (b ∷ line))
unfolding words_of
word_first b line other =
    let size : gap_place (b ∷ line) ≡ suc (gap_place line) =
    rw other (sym (one_more (gap_place line))) in
    ap (filter has_byte) (parts_first (b ∷ line))
    ∙ ap (λ n. filter has_byte
    (take n (b ∷ line) ∷ parts_behind (drop (gap_place (b ∷ line)) (b ∷ line)))) size
    ∙ ap₂ (λ word words. word ∷ words) (ap (λ n. take n (b ∷ line)) (sym size))
    (words_behind (b ∷ line))

-- where a search finds a place it is this one, else there is none in the whole line
pub place_found : (p : ℕ → Bool) (line : List ℕ) (place : ℕ) → position p line ≡ Some place
    → (place ≡ prefix_len (λ b. not (p b)) line) × (place < length line)
place_found p line place found = elim (cases_lt (prefix_len (λ b. not (p b)) line) (length line)) [
  | inl within ↦ let seen = rw (lt-ltb _ _ within) at found in
      let same : place ≡ prefix_len (λ b. not (p b)) line = cc in (same, omega arith)
  | inr past ↦ absurd (let other = rw (le-ltb _ _ past) at found in cc)
]

place_or_end : (p : ℕ → Bool) (line : List ℕ)
    → unwrap_or (position p line) (length line) ≡ prefix_len (λ b. not (p b)) line
place_or_end p line = elim (cases_lt (prefix_len (λ b. not (p b)) line) (length line)) [
  | inl within ↦ rw (lt-ltb _ _ within) refl
  | inr past ↦ rw (le-ltb _ _ past) (omega (arith, prefix_len-le-length (λ b. not (p b)) line))
]

none_found : (p : ℕ → Bool) (line : List ℕ) → position p line ≡ None
    → length line ≤ prefix_len (λ b. not (p b)) line
none_found p line none = elim (cases_lt (prefix_len (λ b. not (p b)) line) (length line)) [
  | inl within ↦ absurd (let other = rw (lt-ltb _ _ within) at none in cc)
  | inr past ↦ past
]

-- the line from the next word on
abbrev word_at_front : List ℕ → Type 0
word_at_front line = words_of line ≡ take (gap_place line) line ∷ words_of
    (drop (gap_place line) line)

first_of : (line : List ℕ) → word_place line < length line
    → word_at_front (drop (word_place line) line)
first_of [] within = absurd (omega arith)
first_of (b ∷ line) within = elim (cases_Bool (is_gap b)) [
  | inl gap ↦
      let below = rw gap at within in
      let longer : drop (word_place line) line ≡ drop (1 + word_place line) (b ∷ line) =
      ap (λ n. drop n (b ∷ line)) (one_more (word_place line)) in
      rw gap (subst word_at_front longer (first_of line (omega (arith, below))))
  | inr other ↦ rw other (word_first b line other)
]

-- the next word of a line, and the line behind it
pub next_word : (line from rest : List ℕ) (start size : ℕ) (gap : Option ℕ)
    → position (λ b. not (is_gap b)) line ≡ Some start
    → from ≡ drop start line → gap ≡ position is_gap from → size ≡ unwrap_or gap (length from)
    → rest ≡ drop size from
    → words_of line ≡ take size from ∷ words_of rest
next_word line from rest start size gap found from_is gap_is size_is rest_is =
    let place = place_found (λ b. not (is_gap b)) line start found in
    let size_is_place : size ≡ gap_place from = size_is
    ∙ ap (λ g. unwrap_or g (length from)) gap_is ∙ place_or_end is_gap from in
    let from_is_place : drop (word_place line) line ≡ from = ap (λ n. drop n line) (sym place.0)
    ∙ sym from_is in
    words_behind_gaps line ∙ ap words_of from_is_place
    ∙ subst word_at_front from_is_place (first_of line (omega (arith, place.0, place.1)))
    ∙ ap₂ (λ word words. word ∷ words) (ap (λ n. take n from) (sym size_is_place))
    (ap words_of (ap (λ n. drop n from) (sym size_is_place) ∙ sym rest_is))

pub no_word : (line : List ℕ) → position (λ b. not (is_gap b)) line ≡ None → words_of line ≡ []
no_word line none = words_behind_gaps line
    ∙ ap words_of (drop_of_length-le line (none_found (λ b. not (is_gap b)) line none))
    ∙ words_of-nil
