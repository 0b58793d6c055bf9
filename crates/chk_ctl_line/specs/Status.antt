-- What the words of `status` ask for.
use Rattle.std.specs.Prelude.{◌≡◌, ℕ, Bool, not, ◌&&◌, ◌||◌, List, [], ◌∷◌, codes}
use Rattle.std.specs.Prelude.{if◌then◌else◌, is_some, option_and_then, Option, Some}
use Rattle.std.specs.Prelude.{None, Result, Ok, Err}
use Rattle.clap.specs.Walk.{Row, Rule, Text, all_of}
use Rattle.clap.specs.Simple.{App, matches_of, new_rule}
use Rattle.clap.specs.Faults.{fault_of}
use Rattle.clap.specs.declared.builder.action.ArgAction.TheVariants.{Append, SetTrue}
use Rattle.chk_ctl_line.specs.Controls.{are_controls}
use Rattle.chk_ctl_line.specs.Given.{rows_in}
use Rattle.chk_ctl_line.specs.Names.{number_in}
use Rattle.chk_ctl_line.specs.Options.{by_option, faultless, flag_rule, is_flagged, option_rule}
use Rattle.chk_ctl_line.specs.Options.{with_rules}
use Rattle.chk_ctl_line.specs.declared.commands.WordsFault.{WordsFault}
use Rattle.chk_ctl_line.specs.declared.commands.WordsFault.TheVariants.{Usage, NoMemory}
use Rattle.chk_ctl_line.specs.declared.status.Form.{Form}
use Rattle.chk_ctl_line.specs.declared.status.Form.TheVariants.{Table, Line, Metrics}
use Rattle.chk_ctl_line.specs.declared.status.StatusWords.{StatusWords}

-- what is asked for: folders of agents and of stores, control doors, how their state is shown, and
-- how many seconds there are between two looks
pub record Status : Type 0 where
  pub help : Bool
  pub agents : Option (List (List ℕ))
  pub stores : Option (List (List ℕ))
  pub controls : Option (List (List ℕ))
  pub form : Form
  pub seconds : ℕ

-- an option `--name VALUE`, any number of times
abbrev pub list_rule : Text → Rule
list_rule name = record (new_rule name) { long = Some name; action = Some Append }

-- the option `-q`, at most once
abbrev pub short_rule : Rule
short_rule = record (new_rule (codes "q")) { short = Some 113; action = Some SetTrue }

-- the options that may come again and again
abbrev pub list_rules : List Rule
list_rules = list_rule (codes "agent") ∷ list_rule (codes "store") ∷ list_rule (codes "control") ∷ []

-- the options, and no other words
abbrev pub status_app : App
status_app = with_rules (list_rule (codes "agent") ∷ list_rule (codes "store")
    ∷ list_rule (codes "control") ∷ option_rule (codes "watch") ∷ short_rule
    ∷ flag_rule (codes "metrics") ∷ flag_rule (codes "help") ∷ [])

-- what `clap` finds in the words, where it takes them
abbrev pub status_rows : List Text → Option (List Row)
status_rows words = faultless (fault_of status_app words) (matches_of status_app words)

abbrev pub form_in : List Row → Form
form_in rows =
    if is_flagged (codes "q") rows then Line
    else if is_flagged (codes "metrics") rows then Metrics else Table

-- something to look at is named
abbrev pub is_named : List Row → Bool
is_named rows =
    is_some (all_of (codes "agent") rows) || is_some (all_of (codes "store") rows)
    || is_some (all_of (codes "control") rows)

-- there is one form, and each control door has a name and an address
abbrev pub is_legal : List Row → Bool
is_legal rows =
    not (is_flagged (codes "q") rows && is_flagged (codes "metrics") rows)
    && are_controls (all_of (codes "control") rows)

-- help, or something to look at in one form
abbrev pub is_asked : List Row → Bool
is_asked rows = is_flagged (codes "help") rows || is_named rows && is_legal rows

abbrev pub status_in : List Row → ℕ → Status
status_in rows seconds = record {
  help = is_flagged (codes "help") rows;
  agents = all_of (codes "agent") rows;
  stores = all_of (codes "store") rows;
  controls = all_of (codes "control") rows;
  form = form_in rows;
  seconds = seconds;
}

abbrev pub status_at : List Row → ℕ → Option Status
status_at rows n = if is_asked rows then Some (status_in rows n) else None

abbrev pub asked_in_rows : List Row → Option Status
asked_in_rows rows = option_and_then (status_at rows)
    (by_option 0 (number_in 86400) (codes "watch") rows)

-- by the words of which the first one is the command
abbrev pub asked_status : List Text → Option Status
asked_status words = option_and_then asked_in_rows (status_rows words)

-- what the struct stands for
abbrev pub status_of : StatusWords → Status
status_of w = status_in (rows_in w.given) w.watch

-- that where something is asked for, and Usage exactly where nothing is, unless there was no memory
abbrev pub ReadsStatus : Option Status → Result StatusWords WordsFault → Type 0
ReadsStatus asked (Ok words) = asked ≡ Some (status_of words)
ReadsStatus asked (Err Usage) = asked ≡ None
ReadsStatus asked (Err NoMemory) = Unit {0}
