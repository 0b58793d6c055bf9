use Rattle.std.proofs.Common.{◌≡◌, inl, inr, List, ℕ, refl}
use Rattle.std.specs.Prelude.{IsFalse}
use Rattle.std.proofs.lemmas.Bool.{false_from_ne_true}
use Rattle.chk_bytes.specs.Words.{is_word}
use Rattle.chk_bytes.specs.WordFaults.{IsRefusal}
use Rattle.chk_bytes.specs.declared.word.WordFault.{WordFault}
use Rattle.chk_bytes.specs.declared.word.WordFault.TheVariants.{NoMemory}
use Rattle.chk_bytes.proofs.FaultLemmas.{faultless-from_is_word}
use Rattle.chk_book.proofs.fields.refusal_of.Goals as goal

no_word : (text : List ℕ) (fault : WordFault) → (fault ≡ NoMemory → ⊥) → IsRefusal text fault → IsFalse (is_word text)
no_word text fault other (inl e) = false_from_ne_true (is_word text) (λ t. let none = faultless-from_is_word text t in cc)
no_word text fault other (inr m) = absurd (other m.0)

pub returns-in-Empty : goal.returns-in-Empty
returns-in-Empty c = λ text h. (refl, no_word text c.args.fault (λ e. let is = c.in-Empty.is in cc) h)

pub returns-in-TooLong : goal.returns-in-TooLong
returns-in-TooLong c = λ text h. (refl, no_word text c.args.fault (λ e. let is = c.in-TooLong.is in cc) h)

pub returns-in-NotUtf8 : goal.returns-in-NotUtf8
returns-in-NotUtf8 c = λ text h. (refl, no_word text c.args.fault (λ e. let is = c.in-NotUtf8.is in cc) h)

pub returns-in-NotWord : goal.returns-in-NotWord
returns-in-NotWord c = λ text h. (refl, no_word text c.args.fault (λ e. let is = c.in-NotWord.is in cc) h)
