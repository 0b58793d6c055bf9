-- What is known of a line that is accepted.
use Rattle.std.proofs.Common.{◌≡◌, ◌⊎◌, ℕ, ◌≤◌, ◌^◌, Bool, true, false, not, cond, ltb, ◌&&◌, ◌||◌, List, [], ◌∷◌, length, Option, Some, None, Ok, Err, IfOk, refl, sym, subst, ap, ◌∙◌, inl, inr}
use Rattle.std.specs.Prelude.{bytes_eq, codes, is_some, option_and_then}
use Rattle.std.specs.Str.{is_utf8}
use Rattle.std.proofs.lemmas.Bool.{cases_Bool, and_parts, and_from, ltb-false}
use Rattle.std.proofs.lemmas.Slice.Eq.{bytes_eq-Decides}
use Rattle.chk_bytes.specs.Words.{is_word}
use Rattle.chk_bytes.specs.Numbers.{plain_number}
use Rattle.chk_control.specs.declared.Class.{Class}
use Rattle.chk_control.specs.declared.commands.Command.{Command}
use Rattle.chk_control.specs.declared.commands.Command.TheVariants.{Blank, Add, Close, Help, List as ListAll, ReloadCollectors, Stop, StopAll, Shutdown, StopAgent}
use Rattle.chk_control.specs.declared.commands.LineFault.TheVariants.{NotUtf8, LongLine, BadWord}
use Rattle.chk_control.specs.Classes.{class_of_name}
use Rattle.chk_control.specs.LineWords.{words_of, without_return}
use Rattle.chk_control.specs.Lines.{Meaning, is_name, is_name_if_given, offset_of, meaning_alone, meaning_with_name, are_good, adaptor_meaning, meaning_of_adaptor, meaning_of_add, meaning_of_words, meaning_of, IsReading}
use Rattle.chk_control.specs.Spellings.{is_command}
use Rattle.chk_control.proofs.SpacedLemmas.{are_words}
use Rattle.chk_control.proofs.OwnWords.{own_words}

-- which of two a choice took
left_or_right : {A : Type 0} (t : Bool) (first rest value : A) → cond t first rest ≡ value
    → ((t ≡ true) × (first ≡ value)) ⊎ ((t ≡ false) × (rest ≡ value))
left_or_right true first rest value is = inl (refl, is)
left_or_right false first rest value is = inr (refl, is)

-- an accepted line isn't too long, and its words are accepted
pub line_accepted : (line : List ℕ) (command : Command) → meaning_of line ≡ Ok command
    → (length line ≤ 16384) × (meaning_of_words (words_of (without_return line)) ≡ Ok command)
unfolding meaning_of
line_accepted line command accepted =
    elim (left_or_right (ltb 16384 (length line)) (Err LongLine) _ (Ok command) accepted) [
      | inl long ↦ absurd (let wrong = long.1 in cc)
      | inr short ↦ elim (left_or_right (is_utf8 line)
          (meaning_of_words (words_of (without_return line))) (Err NotUtf8) (Ok command) short.1) [
            | inl utf8 ↦ (ltb-false 16384 (length line) short.0, utf8.1)
            | inr other ↦ absurd (let wrong = other.1 in cc)
          ]
    ]

-- an accepted command and the words behind its own
pub record IsGood (command : Command) (words : List (List ℕ)) : Type 0 where
  pub command_is : is_command command ≡ true
  pub words_are : are_words words ≡ true

abbrev accepts : Command → Meaning
accepts command = Ok command

same_command : (a b : Command) → accepts a ≡ accepts b → a ≡ b
same_command a b same = cc

alone_good : (own command : Command) (words : List (List ℕ)) → is_command own ≡ true
    → meaning_alone own words ≡ Ok command
    → IsGood command words
alone_good own command [] good accepted = record {
  command_is = subst (λ c. is_command c ≡ true) (same_command own command accepted) good;
  words_are = refl;
}
alone_good own command (word ∷ words) good accepted = absurd (cc)

pub name_is_word : (name : List ℕ) → is_name name ≡ true → is_word name ≡ true
name_is_word name good = (and_parts _ _ good).1

named_good : (own : List ℕ → Command) (command : Command) (words : List (List ℕ))
    → ((name : List ℕ) → is_name name ≡ true → is_command (own name) ≡ true)
    → meaning_with_name own words ≡ Ok command → IsGood command words
named_good own command [] good accepted = absurd (cc)
named_good own command (name ∷ []) good accepted =
    elim (left_or_right (is_name name) (Ok (own name)) (Err BadWord) (Ok command) accepted) [
      | inl here ↦ record {
        command_is = subst (λ c. is_command c ≡ true) (same_command (own name) command here.1)
            (good name here.0);
        words_are = and_from _ _ (name_is_word name here.0) refl;
      }
      | inr bad ↦ absurd (let wrong = bad.1 in cc)
    ]
named_good own command (name ∷ word ∷ words) good accepted = absurd (cc)

-- an accepted adaptor
record IsAdaptor (name : Option (List ℕ)) (command : Command) (words : List (List ℕ)) : Type 0 where
  class_word : List ℕ
  class : Class
  kind : List ℕ
  path : List ℕ
  offset_word : List ℕ
  offset : ℕ
  words_are : words ≡ class_word ∷ kind ∷ path ∷ offset_word ∷ []
  command_is : Add name class kind path offset ≡ command
  good : are_good name class_word kind path offset_word ≡ true
  offset_is : ltb offset (2 ^ 62) ≡ true

below_limit : (number : Option ℕ) (n : ℕ)
    → option_and_then (λ m. cond (ltb m (2 ^ 62)) (Some m) None) number ≡ Some n
    → ltb n (2 ^ 62) ≡ true
below_limit None n is = absurd (cc)
below_limit (Some m) n is = elim (cases_Bool (ltb m (2 ^ 62))) [
  | inl below ↦ let seen = rw below at is in let same : m ≡ n = cc in
      subst (λ k. ltb k (2 ^ 62) ≡ true) same below
  | inr above ↦ absurd (let seen = rw above at is in cc)
]

adaptor_parts : (name : Option (List ℕ)) (command : Command)
    (class_word kind path offset_word : List ℕ)
    (class : Option Class) (offset : Option ℕ) → offset_of offset_word ≡ offset
    → are_good name class_word kind path offset_word ≡ true
    → adaptor_meaning name class kind path offset ≡ Ok command
    → IsAdaptor name command (class_word ∷ kind ∷ path ∷ offset_word ∷ [])
adaptor_parts name command class_word kind path offset_word None offset offset_is good accepted =
    absurd (cc)
adaptor_parts name command class_word kind path offset_word
    (Some class) None offset_is good accepted = absurd (cc)
adaptor_parts name command class_word kind path offset_word (Some class)
    (Some offset) offset_is good accepted = record {
      class_word = class_word;
      class = class;
      kind = kind;
      path = path;
      offset_word = offset_word;
      offset = offset;
      words_are = refl;
      command_is = same_command _ _ accepted;
      good = good;
      offset_is = below_limit (plain_number offset_word) offset offset_is;
    }

adaptor_good : (name : Option (List ℕ)) (command : Command) (words : List (List ℕ))
    → meaning_of_adaptor name words ≡ Ok command
    → IsAdaptor name command words
adaptor_good name command [] accepted = absurd (cc)
adaptor_good name command (class ∷ []) accepted = absurd (cc)
adaptor_good name command (class ∷ kind ∷ []) accepted = absurd (cc)
adaptor_good name command (class ∷ kind ∷ path ∷ []) accepted = absurd (cc)
adaptor_good name command (class ∷ kind ∷ path ∷ offset ∷ []) accepted =
    elim (left_or_right (are_good name class kind path offset) _ (Err BadWord)
    (Ok command) accepted) [
      | inl here ↦ adaptor_parts name command class kind path offset (class_of_name class)
          (offset_of offset) refl here.0 here.1
      | inr bad ↦ absurd (let wrong = bad.1 in cc)
    ]
adaptor_good name command (class ∷ kind ∷ path ∷ offset ∷ word ∷ words) accepted = absurd (cc)

-- four tests that all hold
record AreTrue (class kind path offset : Bool) : Type 0 where
  class_is : class ≡ true
  kind_is : kind ≡ true
  path_is : path ≡ true
  offset_is : offset ≡ true

all_true : (class kind path offset : Bool) → (class && kind && path && offset) ≡ true
    → AreTrue class kind path offset
all_true class kind path offset good =
    let last = and_parts (class && kind && path) offset good in
    let third = and_parts (class && kind) path last.0 in
    let second = and_parts class kind third.0 in
    record { class_is = second.0; kind_is = second.1; path_is = third.1; offset_is = last.1 }

-- the tests of an adaptor's words
record GoodParts (name : Option (List ℕ)) (class kind path offset : List ℕ) : Type 0 where
  name_is : is_name_if_given name ≡ true
  words_are : AreTrue (is_word class) (is_word kind) (is_word path) (is_word offset)

good_parts : (name : Option (List ℕ)) (class kind path offset : List ℕ)
    → are_good name class kind path offset ≡ true
    → GoodParts name class kind path offset
good_parts name class kind path offset good =
    let parts = and_parts (is_name_if_given name)
    (is_word class && is_word kind && is_word path && is_word offset) good in
    record {
      name_is = parts.0;
      words_are =
          all_true (is_word class) (is_word kind) (is_word path) (is_word offset) parts.1;
    }

four_words : (class kind path offset : List ℕ)
    → AreTrue (is_word class) (is_word kind) (is_word path) (is_word offset)
    → are_words (class ∷ kind ∷ path ∷ offset ∷ []) ≡ true
four_words class kind path offset good =
    and_from (is_word class) _ good.class_is (and_from (is_word kind) _ good.kind_is
    (and_from (is_word path) _ good.path_is (and_from (is_word offset) true good.offset_is refl)))

abbrev is_unlike_name : Option (List ℕ) → List ℕ → Bool
is_unlike_name name kind = is_some name || not (bytes_eq kind (codes "="))

good_command : (name : Option (List ℕ)) (command : Command) (words : List (List ℕ))
    (a : IsAdaptor name command words)
    → is_unlike_name name a.kind ≡ true → is_command command ≡ true
good_command name command words a told =
    let good = good_parts name a.class_word a.kind a.path a.offset_word a.good in
    let named = is_name_if_given name in
    let kind = is_word a.kind in
    let path = is_word a.path in
    let small = ltb a.offset (2 ^ 62) in
    subst (λ c. is_command c ≡ true) a.command_is
    (and_from (named && kind && path && small) _
    (and_from (named && kind && path) small
    (and_from (named && kind) path
    (and_from named kind good.name_is good.words_are.kind_is) good.words_are.path_is)
    a.offset_is)
    told)

good_words : (name : Option (List ℕ)) (command : Command) (words : List (List ℕ))
    → IsAdaptor name command words
    → are_words words ≡ true
good_words name command words a =
    ap are_words a.words_are ∙ four_words a.class_word a.kind a.path a.offset_word
    (good_parts name a.class_word a.kind a.path a.offset_word a.good).words_are

named_adaptor : (word next : List ℕ) (words : List (List ℕ)) (command : Command)
    → bytes_eq next (codes "=") ≡ true
    → IsAdaptor (Some word) command words → IsGood command (word ∷ next ∷ words)
named_adaptor word next words command sign a = record {
  command_is = good_command (Some word) command words a refl;
  words_are = and_from (is_word word) _
      (name_is_word word (good_parts
      (Some word) a.class_word a.kind a.path a.offset_word a.good).name_is)
      (and_from (is_word next) _
      (ap is_word ((bytes_eq-Decides next (codes "=")).0 sign) ∙ own_words.sign)
      (good_words (Some word) command words a));
}

unnamed_adaptor : (word next : List ℕ) (words : List (List ℕ)) (command : Command)
    → bytes_eq next (codes "=") ≡ false
    → IsAdaptor None command (word ∷ next ∷ words) → IsGood command (word ∷ next ∷ words)
unnamed_adaptor word next words command no_sign a =
    let kind_is : next ≡ a.kind = let whole = a.words_are in cc in
    record {
      command_is = good_command None command (word ∷ next ∷ words) a
          (ap not (ap (λ k. bytes_eq k (codes "=")) (sym kind_is) ∙ no_sign));
      words_are = good_words None command (word ∷ next ∷ words) a;
    }

-- the words behind `add`
add_good : (command : Command) (words : List (List ℕ)) → meaning_of_add words ≡ Ok command
    → IsGood command words
add_good command [] accepted = absurd (cc)
add_good command (word ∷ []) accepted = absurd (cc)
add_good command (word ∷ next ∷ words) accepted =
    elim (left_or_right (bytes_eq next (codes "=")) (meaning_of_adaptor (Some word) words) _
    (Ok command) accepted) [
      | inl named ↦ named_adaptor word next words command named.0
          (adaptor_good (Some word) command words named.1)
      | inr unnamed ↦ unnamed_adaptor word next words command unnamed.0
          (adaptor_good None command (word ∷ next ∷ words) unnamed.1)
    ]

-- a line whose first word is this one, or not
by_verb : (command : Command) (verb own : List ℕ) (words : List (List ℕ)) (meaning rest : Meaning)
    → is_word own ≡ true
    → cond (bytes_eq verb own) meaning rest ≡ Ok command
    → (meaning ≡ Ok command → IsGood command words)
    → (rest ≡ Ok command → IsGood command (verb ∷ words)) → IsGood command (verb ∷ words)
by_verb command verb own words meaning rest good accepted behind other =
    elim (left_or_right (bytes_eq verb own) meaning rest (Ok command) accepted) [
      | inl here ↦ let good_behind = behind here.1 in record {
        command_is = good_behind.command_is;
        words_are = and_from (is_word verb) _
            (ap is_word ((bytes_eq-Decides verb own).0 here.0) ∙ good) good_behind.words_are;
      }
      | inr there ↦ other there.1
    ]

-- the command of accepted words is one, and they are words
pub words_accepted : (words : List (List ℕ)) (command : Command)
    → meaning_of_words words ≡ Ok command
    → IsGood command words
unfolding meaning_of_words
words_accepted [] command accepted = record {
  command_is = subst (λ c. is_command c ≡ true) (same_command Blank command accepted) refl;
  words_are = refl;
}
words_accepted (verb ∷ words) command accepted =
    by_verb command verb (codes "add") words _ _ own_words.add accepted (add_good command words)
    (λ rest.
    by_verb command verb (codes "close") words _ _ own_words.close rest
    (alone_good Close command words refl) (λ rest.
    by_verb command verb (codes "help") words _ _ own_words.help rest
    (alone_good Help command words refl) (λ rest.
    by_verb command verb (codes "list") words _ _ own_words.list_all rest
    (alone_good ListAll command words refl) (λ rest.
    by_verb command verb (codes "reloadcollectors") words _ _ own_words.reload rest
    (alone_good ReloadCollectors command words refl) (λ rest.
    by_verb command verb (codes "stop") words _ _ own_words.stop rest
    (named_good Stop command words (λ name good. good)) (λ rest.
    by_verb command verb (codes "stopall") words _ _ own_words.stop_all rest
    (alone_good StopAll command words refl) (λ rest.
    by_verb command verb (codes "shutdown") words _ _ own_words.shutdown rest
    (named_good Shutdown command words (λ name good. good)) (λ rest.
    by_verb command verb (codes "stopagent") words _ _ own_words.stop_agent rest
    (alone_good StopAgent command words refl) (λ rest.
    absurd (cc))))))))))

-- so whatever is read is a command that a line can ask for
pub known_command : (words : List (List ℕ)) (answer : Meaning)
    → IsReading (meaning_of_words words) answer
    → IfOk answer (λ command. is_command command ≡ true)
known_command words (Ok command) reading = (words_accepted words command reading).command_is
known_command words (Err fault) reading = tt
