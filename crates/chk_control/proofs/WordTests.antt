-- Testing texts and words.
use Rattle.std.proofs.Common.{◌≡◌, ℕ, Bool, true, false, not, List, Option, Some, None, Result, Ok, Err, MatchResult, sym, inl, inr}
use Rattle.std.specs.Prelude.{is_some, is_ok}
use Rattle.std.specs.Str.{IsUtf8, is_utf8}
use Rattle.std.proofs.lemmas.Str.{IsUtf8-from_is_utf8, is_utf8-from_IsUtf8}
use Rattle.std.proofs.lemmas.Bool.{cases_Bool, false_from_ne_true}
use Rattle.chk_bytes.specs.Words.{is_word}
use Rattle.chk_bytes.specs.WordFaults.{word_fault_of}
use Rattle.chk_bytes.specs.declared.word.WordFault.{WordFault}
use Rattle.chk_bytes.proofs.FaultLemmas.{is_word-from_faultless, faultless-from_is_word}

-- a text is a word where no fault was found
pub faultless_is_word : (text : List ℕ) (fault : Option WordFault) (none : Bool)
    → fault ≡ word_fault_of text
    → is_some fault ≡ not none → none ≡ is_word text
faultless_is_word text None true found is = sym (is_word-from_faultless text (sym found))
faultless_is_word text None false found is = absurd (cc)
faultless_is_word text (Some fault) true found is = absurd (cc)
faultless_is_word text (Some fault) false found is = elim (cases_Bool (is_word text)) [
  | inl word ↦ absurd (let none = faultless-from_is_word text word in cc)
  | inr other ↦ sym other
]

-- what a test for UTF-8 tells
pub utf8_tested : {T E : Type 0} (P : T → Type 0) (Q : E → Type 0) (bytes : List ℕ) (r : Result T E)
    → MatchResult r (λ text. P text × IsUtf8 bytes) (λ error. (¬ (IsUtf8 bytes)) × Q error)
    → is_ok r ≡ is_utf8 bytes
utf8_tested P Q bytes (Ok text) told = sym (is_utf8-from_IsUtf8 bytes told.1)
utf8_tested P Q bytes (Err error) told =
    sym (false_from_ne_true (is_utf8 bytes) (λ utf8. told.0 (IsUtf8-from_is_utf8 bytes utf8)))
