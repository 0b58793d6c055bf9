-- What words ask for.
use Rattle.std.specs.Prelude.{◌≡◌, ℕ, ◌&&◌, List, [], ◌∷◌, codes, bytes_eq, if◌then◌else◌, Option}
use Rattle.std.specs.Prelude.{Some, None, option_and_then, option_map, Result, Ok, Err}
use Rattle.chk_bytes.specs.Words.{is_word}
use Rattle.clap.specs.Walk.{first_of, Row}
use Rattle.chk_ctl_line.specs.Names.{are_collectors, are_stores, is_store, number_in, most}
use Rattle.chk_ctl_line.specs.Options.{parsed, plain_of, by_option, is_flagged}
use Rattle.chk_ctl_line.specs.Usages.{usage_of, option_names, flag_names}
use Rattle.chk_ctl_line.specs.Auditing.{asked_audit}
use Rattle.chk_ctl_line.specs.Commands.{Asked, Cat, Check, Streams, Verify, Sum, Held, Help}
use Rattle.chk_ctl_line.specs.Commands.{HeldIn, Passed, Version, asked_of}
use Rattle.chk_ctl_line.specs.declared.commands.Command.{Command}
use Rattle.chk_ctl_line.specs.declared.commands.WordsFault.{WordsFault}
use Rattle.chk_ctl_line.specs.declared.commands.WordsFault.TheVariants.{Usage as IsUsage}
use Rattle.chk_ctl_line.specs.declared.commands.WordsFault.TheVariants.{NoMemory}
use Rattle.chk_ctl_line.specs.declared.usage.Usage.{Usage}
use Rattle.chk_ctl_line.specs.declared.usage.Usage.TheVariants as usage

-- `cat [--begin N] [--follow] [--records] STORE SOURCE TYPE NAME`
abbrev pub cat_with : List Row → ℕ → List (List ℕ) → Option Asked
cat_with rows begin (store ∷ source ∷ kind ∷ name ∷ []) =
    if is_store store && is_word source && is_word kind && is_word name
    then Some (Cat (record {
      begin = begin;
      follow = is_flagged (codes "follow") rows;
      records = is_flagged (codes "records") rows;
      store = store;
      source = source;
      kind = kind;
      name = name;
    })) else None
cat_with rows begin plain = None

abbrev pub asked_cat : List Row → Option Asked
asked_cat rows =
    option_and_then (λ begin. option_and_then (cat_with rows begin) (plain_of rows))
    (by_option 0 (number_in most) (codes "begin") rows)

-- `passed --agent DIR LOG`
abbrev pub passed_with : List ℕ → List (List ℕ) → Option Asked
passed_with agent (log ∷ []) =
    if is_store agent && is_word log then Some (Passed (record { agent = agent; log = log }))
    else None
passed_with agent plain = None

abbrev pub asked_passed : List Row → Option Asked
asked_passed rows =
    option_and_then (λ agent. option_and_then (passed_with agent) (plain_of rows))
    (first_of (codes "agent") rows)

-- a text that is a word
abbrev pub word_in : Option (List ℕ) → Option (List ℕ)
word_in None = None
word_in (Some text) = if is_word text then Some text else None

-- texts that may be the addresses of an agent's collectors
abbrev pub collectors_in : Option (List (List ℕ)) → Option (List (List ℕ))
collectors_in None = None
collectors_in (Some plain) = if are_collectors plain then Some plain else None

-- `check --initial FILE COLLECTOR...`
abbrev pub check_with : List ℕ → List (List ℕ) → Asked
check_with file collectors = Check (record { file = file; collectors = collectors })

abbrev pub asked_check : List Row → Option Asked
asked_check rows =
    option_and_then (λ file. option_map (check_with file) (collectors_in (plain_of rows)))
    (word_in (first_of (codes "initial") rows))

-- `STORE` alone
abbrev pub store_in : List (List ℕ) → Option (List ℕ)
store_in (store ∷ []) = if is_store store then Some store else None
store_in plain = None

abbrev pub store_of : List Row → Option (List ℕ)
store_of rows = option_and_then store_in (plain_of rows)

-- `STORE [STORE]..`
abbrev pub held_in : List (List ℕ) → Option Asked
held_in [] = None
held_in (store ∷ []) = if is_store store then Some (Held store) else None
held_in (store ∷ other ∷ stores) =
    if are_stores (store ∷ other ∷ stores) then Some (HeldIn (store ∷ other ∷ stores)) else None

abbrev pub asked_held : List Row → Option Asked
asked_held rows = option_and_then held_in (plain_of rows)

-- the command that is named, by its own words
abbrev pub asked_for : Usage → List Row → Option Asked
asked_for usage.Commands rows = None
asked_for usage.Audit rows = asked_audit rows
asked_for usage.Cat rows = asked_cat rows
asked_for usage.Check rows = asked_check rows
asked_for usage.Status rows = None
asked_for usage.Streams rows = option_map Streams (store_of rows)
asked_for usage.Verify rows = option_map Verify (store_of rows)
asked_for usage.Sum rows = option_map Sum (store_of rows)
asked_for usage.Held rows = asked_held rows
asked_for usage.Passed rows = asked_passed rows

-- the same, or how it is used
abbrev pub asked_by : Usage → List Row → Option Asked
asked_by u rows = if is_flagged (codes "help") rows then Some (Help u) else asked_for u rows

-- the same, where `clap` takes the words
abbrev pub asked_in : Usage → List (List ℕ) → Option Asked
asked_in u words = option_and_then (asked_by u) (parsed (option_names u) (flag_names u) words)

-- the word `--help` or `--version`
abbrev pub alone_named : List ℕ → Option Asked
alone_named word =
    if bytes_eq word (codes "--help") then Some (Help usage.Commands)
    else if bytes_eq word (codes "--version") then Some Version else None

-- the only word is such a one
abbrev pub asked_alone : List (List ℕ) → Option Asked
asked_alone (word ∷ []) = alone_named word
asked_alone words = None

-- by the command that the first word names
abbrev pub asked_as : Usage → List (List ℕ) → Option Asked
asked_as usage.Commands words = asked_alone words
asked_as usage.Status words = None
asked_as u words = asked_in u words

abbrev pub asked : List (List ℕ) → Option Asked
asked words = asked_as (usage_of words) words

-- the command where one is asked for, and Usage exactly where none is, unless there was no memory
abbrev pub ReadsCommand : Option Asked → Result Command WordsFault → Type 0
ReadsCommand asked (Ok command) = asked ≡ Some (asked_of command)
ReadsCommand asked (Err IsUsage) = asked ≡ None
ReadsCommand asked (Err NoMemory) = Unit {0}
