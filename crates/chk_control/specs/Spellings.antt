-- How a command is spelled, and that lines ask for just the commands that can be spelled.
use Rattle.std.specs.Prelude.{◌≡◌, ℕ, ◌^◌, Bool, true, ◌&&◌, ◌||◌, not, nat_lt, List, [], ◌∷◌, bytes_eq, codes, decimal, Option, Some, None, is_some, Ok, IsTrue}
use Rattle.chk_bytes.specs.Words.{is_word, joined_at}
use Rattle.chk_control.specs.declared.commands.Command.{Command}
use Rattle.chk_control.specs.declared.commands.Command.TheVariants.{Blank, Add, Close, Help, List as ListAll, ReloadCollectors, Stop, StopAll, Shutdown, StopAgent}
use Rattle.chk_control.specs.Classes.{class_name}
use Rattle.chk_control.specs.LineWords.{words_of, without_return}
use Rattle.chk_control.specs.Lines.{is_name, is_name_if_given, meaning_of}

-- the commands that a line can ask for; an unnamed adaptor of type `=` would be read as a named one
abbrev pub is_command : Command → Bool
is_command (Add name class kind path offset) =
    is_name_if_given name && is_word kind && is_word path && nat_lt offset (2 ^ 62)
    && (is_some name || not (bytes_eq kind (codes "=")))
is_command (Stop name) = is_name name
is_command (Shutdown name) = is_name name
is_command command = true

-- a name with the sign behind it, before the words that follow
abbrev pub name_before : Option (List ℕ) → List (List ℕ) → List (List ℕ)
name_before None words = words
name_before (Some name) words = name ∷ codes "=" ∷ words

-- the words of a command, with the bare name of a class
abbrev pub spelled_words : Command → List (List ℕ)
spelled_words Blank = []
spelled_words (Add name class kind path offset) =
    codes "add" ∷ name_before name (class_name class ∷ kind ∷ path ∷ decimal offset ∷ [])
spelled_words Close = codes "close" ∷ []
spelled_words Help = codes "help" ∷ []
spelled_words ListAll = codes "list" ∷ []
spelled_words ReloadCollectors = codes "reloadcollectors" ∷ []
spelled_words (Stop name) = codes "stop" ∷ name ∷ []
spelled_words StopAll = codes "stopall" ∷ []
spelled_words (Shutdown name) = codes "shutdown" ∷ name ∷ []
spelled_words StopAgent = codes "stopagent" ∷ []

-- words with one space between each two
abbrev pub spaced_line : List (List ℕ) → List ℕ
spaced_line words = joined_at 32 words

-- the spelling of a command that a line can ask for is read as that command
abbrev pub SpellingsAreRead : Type 0
SpellingsAreRead =
    (command : Command) → IsTrue (is_command command)
    → meaning_of (spaced_line (spelled_words command)) ≡ Ok command

-- a line asks for no other command
abbrev pub LinesAskForCommands : Type 0
LinesAskForCommands =
    (line : List ℕ) (command : Command) → meaning_of line ≡ Ok command → IsTrue (is_command command)

-- an accepted line with one space between each two of its words, and no others, asks for the same
abbrev pub SpacesDoNotMatter : Type 0
SpacesDoNotMatter =
    (line : List ℕ) (command : Command) → meaning_of line ≡ Ok command
    → meaning_of (spaced_line (words_of (without_return line))) ≡ Ok command
