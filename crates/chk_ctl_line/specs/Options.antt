-- The options of a command as `clap` reads them.
use Rattle.std.specs.Prelude.{true, false, Bool, List, [], ◌∷◌, map, codes, bytes_eq, Option, Some}
use Rattle.std.specs.Prelude.{None}
use Rattle.clap.specs.Walk.{Row, Rule, Text, all_of, first_of}
use Rattle.clap.specs.Simple.{App, matches_of, new_rule, new_shape}
use Rattle.clap.specs.Words.{with_rule}
use Rattle.clap.specs.Faults.{fault_of}
use Rattle.clap.specs.Kinds.{Kinds}
use Rattle.clap.specs.declared.builder.action.ArgAction.TheVariants.{Append, SetTrue}
use Rattle.clap.specs.declared.error.kind.ErrorKind.{ErrorKind}
use Rattle.clap.specs.declared.error.kind.ErrorKind.TheVariants.{OutOfMemory}
use Rattle.chk_ctl_line.specs.declared.commands.WordsFault.{WordsFault}
use Rattle.chk_ctl_line.specs.declared.commands.WordsFault.TheVariants.{Usage, NoMemory}

-- an option `--name VALUE` or `--name=VALUE`, at most once
abbrev pub option_rule : Text → Rule
option_rule name = record (new_rule name) { long = Some name }

-- an option `--name`, at most once
abbrev pub flag_rule : Text → Rule
flag_rule name = record (new_rule name) { long = Some name; action = Some SetTrue }

-- the other words, any number of them
abbrev pub words_rule : Rule
words_rule = record (new_rule (codes "words")) { action = Some Append }

-- the command with these rules, without an option for help but its own
abbrev pub with_rules : List Rule → App
with_rules rules = record {
  top = record (new_shape (codes "chukwactl")) { rules = rules; disable_help_flag = true };
  subs = [];
}

-- a command with options that take no value besides
abbrev pub with_flags : App → List Text → App
with_flags app [] = app
with_flags app (name ∷ names) = with_flags (with_rule app (flag_rule name)) names

-- a command with these options, with and without a value, and with other words
abbrev pub app_with : List Text → List Text → App
app_with names flags = with_rule (with_flags (with_rules (map option_rule names)) flags) words_rule

-- what was found, where no error may come
abbrev pub faultless : Kinds → List Row → Option (List Row)
faultless [] rows = Some rows
faultless (kind ∷ kinds) rows = None

-- What `clap` finds in the words behind the first one, where it takes them: each option at most
-- once, as `--name VALUE` or `--name=VALUE`, or as `--name` where it takes no value, up to a
-- `--`; no other word there that begins with `-` and has more.
abbrev pub parsed : List Text → List Text → List Text → Option (List Row)
parsed names flags words = faultless (fault_of (app_with names flags) words)
    (matches_of (app_with names flags) words)

-- the words that are no options, where there are any
abbrev pub plain_of : List Row → Option (List Text)
plain_of = all_of (codes "words")

-- what the option's value is read as; without it the default
abbrev pub by_value : {A : Type 0} → A → (Text → Option A) → Option Text → Option A
by_value default read None = Some default
by_value default read (Some value) = read value

-- the same of the option of this name
abbrev pub by_option : {A : Type 0} → A → (Text → Option A) → Text → List Row → Option A
by_option default read name rows = by_value default read (first_of name rows)

-- an option that takes no value was given
abbrev pub is_true : Option Text → Bool
is_true None = false
is_true (Some value) = bytes_eq value (codes "true")

-- the option of this name was
abbrev pub is_flagged : Text → List Row → Bool
is_flagged name rows = is_true (first_of name rows)

-- what an error of `clap` is told as
abbrev pub fault_by : ErrorKind → WordsFault
fault_by OutOfMemory = NoMemory
fault_by kind = Usage
