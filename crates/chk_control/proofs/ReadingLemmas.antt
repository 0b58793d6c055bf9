-- Reading a line word by word.
use Rattle.std.proofs.Common.{◌≡◌, ℕ, Bool, true, false, List, [], ◌∷◌, Ok, Err, refl, sym, subst, ap, ◌∙◌, inl}
use Rattle.std.specs.Prelude.{bytes_eq, codes}
use Rattle.std.proofs.lemmas.Slice.Eq.{bytes_eq-Decides}
use Rattle.chk_control.specs.declared.commands.Command.{Command}
use Rattle.chk_control.specs.declared.commands.LineFault.TheVariants.{Unknown}
use Rattle.chk_control.specs.Lines.{Meaning, is_name, meaning_with_name, meaning_of_words, IsLineRefusal, IsReading}

-- the words begin with a command's own word
pub own_word : (words rest : List (List ℕ)) (verb shown own : List ℕ) (same : Bool)
    → words ≡ verb ∷ rest
    → same ≡ bytes_eq verb shown → shown ≡ own → same ≡ true → words ≡ own ∷ rest
own_word words rest verb shown own same words_are tested shown_is is =
    words_are ∙ ap (λ word. word ∷ rest)
    ((bytes_eq-Decides verb shown).0 (sym tested ∙ is) ∙ shown_is)

-- they begin with another
pub other_word : (verb shown own : List ℕ) (same : Bool) → same ≡ bytes_eq verb shown → shown ≡ own
    → same ≡ false
    → bytes_eq verb own ≡ false
other_word verb shown own same tested shown_is is = ap (bytes_eq verb) (sym shown_is) ∙ sym tested
    ∙ is

-- what was read of the same words
pub same_words : (words own : List (List ℕ)) (answer : Meaning) → words ≡ own
    → IsReading (meaning_of_words own) answer
    → IsReading (meaning_of_words words) answer
same_words words own answer same reading =
    subst (λ w. IsReading (meaning_of_words w) answer) (sym same) reading

-- what was read exactly
pub exact_reading : (meaning answer : Meaning) → answer ≡ meaning → IsReading meaning answer
exact_reading meaning (Ok command) same = sym same
exact_reading meaning (Err fault) same = inl (sym same)

-- a good name alone
pub name_meant : (command : List ℕ → Command) (words : List (List ℕ)) (name : List ℕ)
    → words ≡ name ∷ [] → is_name name ≡ true
    → meaning_with_name command words ≡ Ok (command name)
name_meant command words name words_are good =
    ap (meaning_with_name command) words_are ∙ rw good refl

-- the first word is none of the commands'
pub record IsUnknown (verb : List ℕ) : Type 0 where
  pub add : bytes_eq verb (codes "add") ≡ false
  pub close : bytes_eq verb (codes "close") ≡ false
  pub help : bytes_eq verb (codes "help") ≡ false
  pub list_all : bytes_eq verb (codes "list") ≡ false
  pub reload : bytes_eq verb (codes "reloadcollectors") ≡ false
  pub stop : bytes_eq verb (codes "stop") ≡ false
  pub stop_all : bytes_eq verb (codes "stopall") ≡ false
  pub shutdown : bytes_eq verb (codes "shutdown") ≡ false
  pub stop_agent : bytes_eq verb (codes "stopagent") ≡ false

pub unknown_meant : (words rest : List (List ℕ)) (verb : List ℕ) → words ≡ verb ∷ rest
    → IsUnknown verb
    → IsLineRefusal (meaning_of_words words) Unknown
unfolding meaning_of_words
unknown_meant words rest verb words_are u =
    inl (ap meaning_of_words words_are
    ∙ rw (u.add, u.close, u.help, u.list_all, u.reload, u.stop, u.stop_all, u.shutdown, u.stop_agent) refl)
