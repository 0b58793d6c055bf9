-- What is wrong with a text that is no word.
use Rattle.std.proofs.Common.{◌≡◌, ℕ, ◌<◌, ◌≤◌, Bool, true, false, not, cond, List, [], ◌∷◌, length, ltb, Option, Some, None, refl, sym, ap, ◌∙◌, inl, inr, arith}
use Rattle.std.specs.Prelude.{IsTrue, position}
use Rattle.std.specs.Option.{option_map, MatchOption}
use Rattle.std.specs.Str.{IsUtf8, is_utf8}
use Rattle.std.specs.Str.Lossy.{utf8_valid_len}
use Rattle.std.specs.List.{list_all, prefix_len}
use Rattle.std.proofs.lemmas.Str.{IsUtf8-from_is_utf8, is_utf8-from_IsUtf8}
use Rattle.std.proofs.lemmas.Bool.{ltb-false, lt-ltb, le-ltb, eqb-false, eq-eqb, ne_eqb, and_parts, and_from, cond-false, cases_Bool, cases_lt, false_from_ne_true}
use Rattle.chk_bytes.specs.Words.{is_word, is_word_byte}
use Rattle.chk_bytes.specs.WordFaults.{word_fault_of}
use Rattle.chk_bytes.specs.declared.word.WordFault.{WordFault}
use Rattle.chk_bytes.specs.declared.word.WordFault.TheVariants.{Empty, TooLong, NotUtf8, NotWord}
use Rattle.chk_bytes.proofs.WordLemmas.{word_facts, is_word-from_facts}

-- where all bytes pass a test, none is found that fails it
all_passed : (p : ℕ → Bool) (text : List ℕ) → list_all p text ≡ true
    → prefix_len (λ b. not (not (p b))) text ≡ length text
all_passed p [] h = refl
all_passed p (b ∷ bs) h =
    let parts = and_parts (p b) (list_all p bs) h in
    rw parts.0 (omega (arith, all_passed p bs parts.1))

-- where none is found that fails a test, all pass it
pass_all : (p : ℕ → Bool) (text : List ℕ) → prefix_len (λ b. not (not (p b))) text ≡ length text
    → list_all p text ≡ true
pass_all p [] h = refl
pass_all p (b ∷ bs) h =
    elim (cases_Bool (p b)) [
      | inl t ↦ let k = rw t at h in and_from _ _ t (pass_all p bs (omega (arith, k)))
      | inr f ↦ let k = rw f at h in absurd (omega (arith, k))
    ]

prefix_le : (p : ℕ → Bool) (text : List ℕ) → prefix_len p text ≤ length text
prefix_le p [] = omega arith
prefix_le p (b ∷ bs) = elim (cases_Bool (p b)) [
  | inl t ↦ rw t (omega (arith, prefix_le p bs))
  | inr f ↦ rw f (omega arith)
]

none_failing : (p : ℕ → Bool) (text : List ℕ) → list_all p text ≡ true
    → position (λ b. not (p b)) text ≡ None
none_failing p text h =
    let n = prefix_len (λ b. not (not (p b))) text in
    let past : length text ≤ n = omega (arith, all_passed p text h) in
    cond-false (ltb n (length text)) (Some n) None (le-ltb n (length text) past)

all_where_none : (p : ℕ → Bool) (text : List ℕ) → position (λ b. not (p b)) text ≡ None
    → list_all p text ≡ true
all_where_none p text h =
    elim (cases_lt (prefix_len (λ b. not (not (p b))) text) (length text)) [
      | inl below ↦ absurd (let k = rw (lt-ltb _ _ below) at h in cc)
      | inr past ↦ pass_all p text (omega (arith, prefix_le (λ b. not (not (p b))) text))
    ]

-- which of the four faults it is
fault_by : (e l u : Bool) (x y z : WordFault) (o : Option WordFault)
    → cond e (Some x) (cond l (Some y) (cond u o (Some z))) ≡ None
    → (e ≡ false) × (l ≡ false) × (u ≡ true) × (o ≡ None)
fault_by true l u x y z o h = absurd (cc)
fault_by false true u x y z o h = absurd (cc)
fault_by false false true x y z o h = (refl, refl, refl, h)
fault_by false false false x y z o h = absurd (cc)

none_mapped : (o : Option ℕ) → option_map NotWord o ≡ None → o ≡ None
none_mapped None h = refl
none_mapped (Some at) h = absurd (cc)

pub fault_empty : (text : List ℕ) → length text ≡ 0 → Some Empty ≡ word_fault_of text
unfolding word_fault_of
fault_empty text h = rw (eq-eqb (length text) 0 h) refl

pub fault_long : (text : List ℕ) → 4096 < length text
    → Some (TooLong 4096 (length text)) ≡ word_fault_of text
unfolding word_fault_of
fault_long text h =
    let some : (length text ≡ 0 → ⊥) = λ e. omega arith in
    rw (ne_eqb (length text) 0 some, lt-ltb 4096 (length text) h) refl

pub fault_utf8 : (text : List ℕ) → (length text ≡ 0 → ⊥) → length text ≤ 4096 → (IsUtf8 text → ⊥)
    → Some (NotUtf8 (utf8_valid_len text)) ≡ word_fault_of text
unfolding word_fault_of
fault_utf8 text some short no_utf8 =
    let no_text : is_utf8 text ≡ false =
    false_from_ne_true (is_utf8 text) (λ t. no_utf8 (IsUtf8-from_is_utf8 text t)) in
    rw (ne_eqb (length text) 0 some, le-ltb 4096 (length text) short, no_text) refl

pub fault_byte : (text : List ℕ) → (length text ≡ 0 → ⊥) → length text ≤ 4096 → IsUtf8 text
    → option_map NotWord (position (λ b. not (is_word_byte b)) text) ≡ word_fault_of text
unfolding word_fault_of
fault_byte text some short utf8 =
    rw (
      ne_eqb (length text) 0 some,
      le-ltb 4096 (length text) short,
      is_utf8-from_IsUtf8 text
          utf8,
    ) refl

-- a text is a word exactly where nothing is wrong with it
pub is_word-from_faultless : (text : List ℕ) → word_fault_of text ≡ None → IsTrue (is_word text)
unfolding word_fault_of
is_word-from_faultless text h =
    let parts = fault_by _ _ _ _ _ _ _ h in
    let some : (length text ≡ 0 → ⊥) = eqb-false (length text) 0 parts.0 in
    is_word-from_facts text record {
      some_byte = omega arith;
      at_most = ltb-false 4096 (length text) parts.1;
      word_bytes = all_where_none is_word_byte text (none_mapped _ parts.3);
      utf8 = IsUtf8-from_is_utf8 text parts.2;
    }

pub faultless-from_is_word : (text : List ℕ) → IsTrue (is_word text) → word_fault_of text ≡ None
faultless-from_is_word text h =
    let w = word_facts text h in
    sym (fault_byte text (λ e. omega (arith, w.some_byte)) w.at_most w.utf8)
    ∙ ap (option_map NotWord) (none_failing is_word_byte text w.word_bytes)

-- what `map` gives, where it puts a place into the fault
pub mapped : (o : Option ℕ) (r : Option WordFault) (p : Option ℕ)
    → MatchOption o (r ≡ None) (λ at. r ≡ Some (NotWord at)) → o ≡ p → r ≡ option_map NotWord p
mapped None r p h e = h ∙ ap (option_map NotWord) e
mapped (Some at) r p h e = h ∙ ap (option_map NotWord) e
