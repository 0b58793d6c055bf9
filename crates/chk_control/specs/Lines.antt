-- What a control line means, and what is wrong with it.
use Rattle.std.specs.Prelude.{◌≡◌, ◌⊎◌, ℕ, ◌^◌, Bool, true, ◌&&◌, not, nat_lt, nat_le, List, [], ◌∷◌, length, bytes_eq, codes, Option, Some, None, option_and_then, Result, Ok, Err, IsOk, if◌then◌else◌}
use Rattle.std.specs.Str.{is_utf8}
use Rattle.chk_bytes.specs.Words.{is_word}
use Rattle.chk_bytes.specs.Numbers.{plain_number}
use Rattle.chk_control.specs.declared.Class.{Class}
use Rattle.chk_control.specs.declared.commands.Command.{Command}
use Rattle.chk_control.specs.declared.commands.Command.TheVariants.{Blank, Add, Close, Help, List as ListAll, ReloadCollectors, Stop, StopAll, Shutdown, StopAgent}
use Rattle.chk_control.specs.declared.commands.LineFault.{LineFault}
use Rattle.chk_control.specs.declared.commands.LineFault.TheVariants.{Unknown, MissingWord, BadOffset, BadClass, NotUtf8, LongLine, ExtraWord, BadWord, NoMemory}
use Rattle.chk_control.specs.Classes.{class_of_name}
use Rattle.chk_control.specs.LineWords.{words_of, without_return}

-- what a line gives: a command, or the one thing that it is refused for
abbrev pub Meaning : Type 0
Meaning = Result Command LineFault

-- a name: a word of at most 64 bytes that isn't `=`
abbrev pub is_name : List ℕ → Bool
is_name word = nat_le (length word) 64 && not (bytes_eq word (codes "=")) && is_word word

-- a name, where one is given
abbrev pub is_name_if_given : Option (List ℕ) → Bool
is_name_if_given None = true
is_name_if_given (Some name) = is_name name

-- a number below 2^62, without leading zeros
abbrev pub offset_of : List ℕ → Option ℕ
offset_of word =
    option_and_then (λ n. if nat_lt n (2 ^ 62) then Some n else None) (plain_number word)

-- a command with no word behind its own
abbrev pub meaning_alone : Command → List (List ℕ) → Meaning
meaning_alone command [] = Ok command
meaning_alone command (word ∷ words) = Err ExtraWord

-- a command with one word behind its own, a name
abbrev pub meaning_with_name : (List ℕ → Command) → List (List ℕ) → Meaning
meaning_with_name command [] = Err MissingWord
meaning_with_name command (name ∷ []) = if is_name name then Ok (command name) else Err BadWord
meaning_with_name command (name ∷ word ∷ words) = Err ExtraWord

-- an adaptor of good words: first its class, then its offset has to be one
abbrev pub adaptor_meaning : Option (List ℕ) → Option Class → List ℕ → List ℕ → Option ℕ → Meaning
adaptor_meaning name None kind path offset = Err BadClass
adaptor_meaning name (Some class) kind path None = Err BadOffset
adaptor_meaning name (Some class) kind path (Some offset) = Ok (Add name class kind path offset)

-- all words of an adaptor are good
abbrev pub are_good : Option (List ℕ) → List ℕ → List ℕ → List ℕ → List ℕ → Bool
are_good name class kind path offset =
    is_name_if_given name && (is_word class && is_word kind && is_word path && is_word offset)

-- an adaptor of class, type, path and offset
abbrev pub meaning_of_adaptor : Option (List ℕ) → List (List ℕ) → Meaning
meaning_of_adaptor name (class ∷ kind ∷ path ∷ offset ∷ []) =
    if are_good name class kind path offset
    then adaptor_meaning name (class_of_name class) kind path (offset_of offset) else Err BadWord
meaning_of_adaptor name (class ∷ kind ∷ path ∷ offset ∷ word ∷ words) = Err ExtraWord
meaning_of_adaptor name words = Err MissingWord

-- the words behind `add`: the first is a name exactly where the next is `=`
abbrev pub meaning_of_add : List (List ℕ) → Meaning
meaning_of_add (word ∷ next ∷ words) =
    if bytes_eq next (codes "=")
    then meaning_of_adaptor (Some word) words else meaning_of_adaptor None (word ∷ next ∷ words)
meaning_of_add words = meaning_of_adaptor None words

-- the words of a line
unfoldable pub meaning_of_words : List (List ℕ) → Meaning
meaning_of_words [] = Ok Blank
meaning_of_words (verb ∷ words) =
    if bytes_eq verb (codes "add") then meaning_of_add words
    else if bytes_eq verb (codes "close") then meaning_alone Close words
    else if bytes_eq verb (codes "help") then meaning_alone Help words
    else if bytes_eq verb (codes "list") then meaning_alone ListAll words
    else if bytes_eq verb (codes "reloadcollectors") then meaning_alone ReloadCollectors words
    else if bytes_eq verb (codes "stop") then meaning_with_name Stop words
    else if bytes_eq verb (codes "stopall") then meaning_alone StopAll words
    else if bytes_eq verb (codes "shutdown") then meaning_with_name Shutdown words
    else if bytes_eq verb (codes "stopagent") then meaning_alone StopAgent words
    else Err Unknown

-- a line, without its newline
unfoldable pub meaning_of : List ℕ → Meaning
meaning_of line =
    if nat_lt 16384 (length line) then Err LongLine
    else if is_utf8 line then meaning_of_words (words_of (without_return line)) else Err NotUtf8

-- a refusal: just what the line is refused for, or for a good line want of memory
abbrev pub IsLineRefusal : Meaning → LineFault → Type 0
IsLineRefusal meaning fault = (meaning ≡ Err fault) ⊎ ((fault ≡ NoMemory) × IsOk meaning)

-- a line was read as it is meant
abbrev pub IsReading : Meaning → Meaning → Type 0
IsReading meaning (Ok command) = meaning ≡ Ok command
IsReading meaning (Err fault) = IsLineRefusal meaning fault
