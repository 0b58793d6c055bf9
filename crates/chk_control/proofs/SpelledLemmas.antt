-- The spelling of a command is read as that command.
use Rattle.std.proofs.Common.{◌≡◌, ℕ, ◌+◌, ◌%◌, ◌<◌, ◌≤◌, ◌^◌, Bool, true, false, not, cond, ltb, leb, ◌&&◌, ◌||◌, List, [], ◌∷◌, length, Option, Some, None, Ok, refl, ap, ◌∙◌, arith, lit<}
use Rattle.std.specs.Prelude.{bytes_eq, codes, is_some, decimal, option_and_then}
use Rattle.std.specs.List.{list_all}
use Rattle.std.proofs.lemmas.Bool.{and_parts, and_from, ltb-true, lt-ltb, leb-true, ne_eqb}
use Rattle.std.proofs.lemmas.Fmt.{decimal_by_steps, decimal_nonempty, length-decimal-le, IsAscii-decimal}
use Rattle.std.proofs.lemmas.List.Folds.{list_all-append}
use Rattle.std.proofs.lemmas.Str.{IsUtf8-from_ascii}
use Rattle.chk_bytes.specs.Words.{is_word, is_word_byte}
use Rattle.chk_bytes.proofs.WordLemmas.{word_facts, is_word-from_facts}
use Rattle.chk_bytes.proofs.DecimalLemmas.{plain_number-decimal}
use Rattle.chk_control.specs.declared.Class.{Class}
use Rattle.chk_control.specs.declared.Class.TheVariants.{Plain, Rotating, Lines}
use Rattle.chk_control.specs.declared.commands.Command.{Command}
use Rattle.chk_control.specs.declared.commands.Command.TheVariants.{Blank, Add, Close, Help, List as ListAll, ReloadCollectors, Stop, StopAll, Shutdown, StopAgent}
use Rattle.chk_control.specs.Classes.{class_name}
use Rattle.chk_control.specs.Lines.{is_name, is_name_if_given, offset_of, are_good, meaning_with_name, meaning_of_adaptor, meaning_of_add, meaning_of_words, meaning_of}
use Rattle.chk_control.specs.Spellings.{is_command, name_before, spelled_words, spaced_line}
use Rattle.chk_control.proofs.AcceptedLemmas.{words_accepted}
use Rattle.chk_control.proofs.ClassLemmas.{class_of_bare}
use Rattle.chk_control.proofs.OwnWords.{class_is_word}
use Rattle.chk_control.proofs.SpacedLemmas.{meaning_of_spaced, total_size, spaced_size}

-- ---- numbers

digit_is_word_byte : (n : ℕ) → n < 10 → is_word_byte (48 + n) ≡ true
digit_is_word_byte n below =
    let other : (48 + n ≡ 127 → ⊥) = λ e. omega arith in
    and_from (ltb 32 (48 + n)) _ (lt-ltb 32 (48 + n) (omega arith))
    (ap not (ne_eqb (48 + n) 127 other))

digits_are_word_bytes : (n : ℕ) → n < 2 ^ 64 → list_all is_word_byte (decimal n) ≡ true
digits_are_word_bytes n small = decimal_by_steps (λ _ digits. list_all is_word_byte digits ≡ true)
    (λ d below. and_from (is_word_byte (48 + d)) true (digit_is_word_byte d below) refl)
    (λ m digits above front. list_all-append is_word_byte digits ((48 + m % 10) ∷ [])
    ∙ and_from _ _ front (and_from (is_word_byte (48 + m % 10)) true
    (digit_is_word_byte (m % 10) (omega arith)) refl))
    n small

number_is_word : (n : ℕ) → n < 2 ^ 64 → is_word (decimal n) ≡ true
number_is_word n small = is_word-from_facts (decimal n) record {
  some_byte = decimal_nonempty n small;
  at_most = omega (arith, length-decimal-le 20 n (lit< tt) (omega arith) small);
  word_bytes = digits_are_word_bytes n small;
  utf8 = IsUtf8-from_ascii (decimal n) (IsAscii-decimal n small);
}

offset_of-decimal : (n : ℕ) → n < 2 ^ 62 → offset_of (decimal n) ≡ Some n
offset_of-decimal n below =
    ap (option_and_then (λ m. cond (ltb m (2 ^ 62)) (Some m) None))
    (plain_number-decimal n (omega arith))
    ∙ rw (lt-ltb n (2 ^ 62) below) refl

-- ---- a command's parts

pub record IsAddition (name : Option (List ℕ)) (kind path : List ℕ) (offset : ℕ) : Type 0 where
  name_is : is_name_if_given name ≡ true
  kind_is : is_word kind ≡ true
  path_is : is_word path ≡ true
  offset_is : offset < 2 ^ 62
  unlike : (is_some name || not (bytes_eq kind (codes "="))) ≡ true

addition : (name : Option (List ℕ)) (class : Class) (kind path : List ℕ) (offset : ℕ)
    → is_command (Add name class kind path offset) ≡ true
    → IsAddition name kind path offset
addition name class kind path offset good =
    let named = is_name_if_given name in
    let small = ltb offset (2 ^ 62) in
    let last = and_parts (named && is_word kind && is_word path && small)
    (is_some name || not (bytes_eq kind (codes "="))) good in
    let fourth = and_parts (named && is_word kind && is_word path) small last.0 in
    let third = and_parts (named && is_word kind) (is_word path) fourth.0 in
    let second = and_parts named (is_word kind) third.0 in
    record {
      name_is = second.0;
      kind_is = second.1;
      path_is = third.1;
      offset_is = ltb-true offset (2 ^ 62) fourth.1;
      unlike = last.1;
    }

all_good : (name : Option (List ℕ)) (class : Class) (kind path : List ℕ) (offset : ℕ)
    → IsAddition name kind path offset
    → are_good name (class_name class) kind path (decimal offset) ≡ true
all_good name class kind path offset a =
    let below = a.offset_is in
    and_from (is_name_if_given name) _ a.name_is
    (and_from (is_word (class_name class) && is_word kind && is_word path)
    (is_word (decimal offset))
    (and_from (is_word (class_name class) && is_word kind) (is_word path)
    (and_from (is_word (class_name class)) (is_word kind)
    (class_is_word class) a.kind_is) a.path_is)
    (number_is_word offset (omega arith)))

-- the four words of an adaptor are read as it
adaptor_read : (name : Option (List ℕ)) (class : Class) (kind path : List ℕ) (offset : ℕ)
    → IsAddition name kind path offset
    → meaning_of_adaptor name (class_name class ∷ kind ∷ path ∷ decimal offset ∷ []) ≡ Ok
    (Add name class kind path offset)
adaptor_read name class kind path offset a =
    rw (all_good name class kind path offset a, class_of_bare class, offset_of-decimal offset a.offset_is) refl

pub false_from_not : (b : Bool) → not b ≡ true → b ≡ false
false_from_not true h = absurd (cc)
false_from_not false h = refl

addition_read : (name : Option (List ℕ)) (class : Class) (kind path : List ℕ) (offset : ℕ)
    → IsAddition name kind path offset
    → meaning_of_add (name_before name (class_name class ∷ kind ∷ path ∷ decimal offset ∷ [])) ≡ Ok
    (Add name class kind path offset)
addition_read None class kind path offset a =
    let no_sign : bytes_eq kind (codes "=") ≡ false =
    false_from_not (bytes_eq kind (codes "=")) a.unlike in
    rw no_sign (adaptor_read None class kind path offset a)
addition_read (Some name) class kind path offset a =
    adaptor_read (Some name) class kind path offset a

-- ---- whole commands

named_read : (own : List ℕ → Command) (name : List ℕ) → is_name name ≡ true
    → meaning_with_name own (name ∷ []) ≡ Ok (own name)
named_read own name good = rw good refl

words_read : (command : Command) → is_command command ≡ true
    → meaning_of_words (spelled_words command) ≡ Ok command
unfolding meaning_of_words
words_read Blank good = refl
words_read (Add name class kind path offset) good =
    addition_read name class kind path offset (addition name class kind path offset good)
words_read Close good = refl
words_read Help good = refl
words_read ListAll good = refl
words_read ReloadCollectors good = refl
words_read (Stop name) good = named_read Stop name good
words_read StopAll good = refl
words_read (Shutdown name) good = named_read Shutdown name good
words_read StopAgent good = refl

name_size : (name : List ℕ) → is_name name ≡ true → length name ≤ 64
name_size name good =
    let parts = and_parts (leb (length name) 64 && not (bytes_eq name (codes "=")))
    (is_word name) good in
    leb-true (length name) 64 (and_parts (leb (length name) 64) _ parts.0).0

class_size : (class : Class) → length (class_name class) ≤ 26
class_size Plain = omega arith
class_size Rotating = omega arith
class_size Lines = omega arith

addition_size : (name : Option (List ℕ)) (class : Class) (kind path : List ℕ) (offset : ℕ)
    → IsAddition name kind path offset
    → total_size (spelled_words (Add name class kind path offset)) ≤ 16384
addition_size None class kind path offset a =
    let below = a.offset_is in
    let kind_size = (word_facts kind a.kind_is).at_most in
    let path_size = (word_facts path a.path_is).at_most in
    let offset_size = (word_facts (decimal offset) (number_is_word offset (omega arith))).at_most in
    omega (arith, class_size class, kind_size, path_size, offset_size)
addition_size (Some name) class kind path offset a =
    let below = a.offset_is in
    let kind_size = (word_facts kind a.kind_is).at_most in
    let path_size = (word_facts path a.path_is).at_most in
    let offset_size = (word_facts (decimal offset) (number_is_word offset (omega arith))).at_most in
    omega (arith, name_size name a.name_is, class_size class, kind_size, path_size, offset_size)

spelled_size : (command : Command) → is_command command ≡ true
    → total_size (spelled_words command) ≤ 16384
spelled_size Blank good = omega arith
spelled_size (Add name class kind path offset) good =
    addition_size name class kind path offset (addition name class kind path offset good)
spelled_size Close good = omega arith
spelled_size Help good = omega arith
spelled_size ListAll good = omega arith
spelled_size ReloadCollectors good = omega arith
spelled_size (Stop name) good = omega (arith, name_size name good)
spelled_size StopAll good = omega arith
spelled_size (Shutdown name) good = omega (arith, name_size name good)
spelled_size StopAgent good = omega arith

pub spelled_read : (command : Command) → is_command command ≡ true
    → meaning_of (spaced_line (spelled_words command)) ≡ Ok command
spelled_read command good =
    let words = spelled_words command in
    meaning_of_spaced words (words_accepted words command (words_read command good)).words_are
    (omega (arith, spaced_size words, spelled_size command good))
    ∙ words_read command good
