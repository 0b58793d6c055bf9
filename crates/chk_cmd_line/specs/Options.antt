-- The options of a command as `clap` reads them.
use Rattle.std.specs.Prelude.{true, List, [], ◌∷◌, ◌++◌, map, codes, if◌then◌else◌, Option, Some, None}
use Rattle.chk_bytes.specs.Words.{is_word}
use Rattle.clap.specs.Walk.{Row, Rule, Text, all_of, first_of}
use Rattle.clap.specs.Simple.{App, matches_of, new_rule, new_shape}
use Rattle.clap.specs.Faults.{fault_of}
use Rattle.clap.specs.Kinds.{Kinds}
use Rattle.clap.specs.declared.builder.action.ArgAction.TheVariants.{Append}
use Rattle.clap.specs.declared.error.kind.ErrorKind.{ErrorKind}
use Rattle.clap.specs.declared.error.kind.ErrorKind.TheVariants.{OutOfMemory}
use Rattle.chk_cmd_line.specs.declared.commands.WordsFault.{WordsFault}
use Rattle.chk_cmd_line.specs.declared.commands.WordsFault.TheVariants.{Usage, NoMemory}

-- an option `--name VALUE` or `--name=VALUE`, at most once
abbrev pub option_rule : Text → Rule
option_rule name = record (new_rule name) { long = Some name }

-- the other words, any number of them
abbrev pub words_rule : Rule
words_rule = record (new_rule (codes "words")) { action = Some Append }

-- a command with these options, without an option for help
abbrev pub app_with : List Text → App
app_with names = record {
  top = record (new_shape (codes "chukwa")) {
    rules = map option_rule names ++ words_rule ∷ [];
    disable_help_flag = true;
  };
  subs = [];
}

-- what was found, where no error may come
abbrev pub faultless : Kinds → List Row → Option (List Row)
faultless [] rows = Some rows
faultless (kind ∷ kinds) rows = None

-- What `clap` finds in the words behind the first one, where it takes them: each option at most once, as `--name VALUE` or
-- `--name=VALUE`, up to a `--`; no other word there that begins with `-` and has more.
abbrev pub parsed : List Text → List Text → Option (List Row)
parsed names words = faultless (fault_of (app_with names) words) (matches_of (app_with names) words)

-- the words that are no options, where there are any
abbrev pub plain_of : List Row → Option (List Text)
plain_of = all_of (codes "words")

-- what the option's value is read as; without it the default
abbrev pub by_value : {A : Type 0} → A → (Text → Option A) → Option Text → Option A
by_value default read None = Some default
by_value default read (Some value) = read value

-- the same of the option of this name
abbrev pub by_option : {A : Type 0} → A → (Text → Option A) → Text → List Row → Option A
by_option default read name rows = by_value default read (first_of name rows)

-- the word, if it is one
abbrev pub as_word : Text → Option Text
as_word text = if is_word text then Some text else None

-- the same for an option that may be left out
abbrev pub as_some_word : Text → Option (Option Text)
as_some_word text = if is_word text then Some (Some text) else None

-- the cluster where none is named
abbrev pub no_cluster : Text
no_cluster = codes "none"

-- what an error of `clap` is told as
abbrev pub fault_by : ErrorKind → WordsFault
fault_by OutOfMemory = NoMemory
fault_by kind = Usage
