-- What comes of a line, behind the streams that the lines before it add.
use Rattle.std.specs.Prelude.{ℕ, ◌==◌, ◌&&◌, Bool, false, List, [], ◌∷◌, ◌++◌, bytes_eq}
use Rattle.std.specs.Prelude.{if◌then◌else◌, Option, Some, None, Ok, Err}
use Rattle.std.specs.List.{list_any}
use Rattle.chk_control.specs.declared.Class.{Class}
use Rattle.chk_control.specs.declared.commands.Command.TheVariants.{Blank as NoWords, Add}
use Rattle.chk_control.specs.Lines.{Meaning}
use Rattle.chk_ctl_check.specs.declared.judging.Added.{Added}
use Rattle.chk_ctl_check.specs.declared.judging.Verdict.{Verdict}
use Rattle.chk_ctl_check.specs.declared.judging.Verdict.TheVariants.{Blank, Wrong, Reads}
use Rattle.chk_ctl_check.specs.declared.trouble.Trouble.{Trouble}
use Rattle.chk_ctl_check.specs.declared.trouble.Trouble.TheVariants.{Refused, NoAdd, StreamInUse}
use Rattle.chk_ctl_check.specs.declared.trouble.Trouble.TheVariants.{NameInUse, RelativePath}

-- the path begins with a slash
abbrev pub is_absolute : List ℕ → Bool
is_absolute [] = false
is_absolute (b ∷ path) = b == 47

-- they are of one type and path
abbrev pub same_stream : Added → Added → Bool
same_stream stream other = bytes_eq stream.kind other.kind && bytes_eq stream.path other.path

abbrev pub same_text : Option (List ℕ) → Option (List ℕ) → Bool
same_text (Some name) (Some other) = bytes_eq name other
same_text _ _ = false

-- both have a name, and it is the same
abbrev pub same_name : Added → Added → Bool
same_name stream other = same_text stream.name other.name

-- what is wrong with a stream behind these
abbrev pub trouble_among : List Added → Added → Option Trouble
trouble_among added stream =
    if list_any (same_stream stream) added then Some StreamInUse
    else if list_any (same_name stream) added then Some NameInUse else None

-- what comes of a stream that is none of them
abbrev pub verdict_alone : Added → Class → Verdict
verdict_alone stream class =
    if is_absolute stream.path then Reads class stream.path else Wrong RelativePath

abbrev pub verdict_by : Option Trouble → Added → Class → Verdict
verdict_by (Some trouble) stream class = Wrong trouble
verdict_by None stream class = verdict_alone stream class

abbrev pub verdict_with : List Added → Added → Class → Verdict
verdict_with added stream class = verdict_by (trouble_among added stream) stream class

-- the streams with one that nothing is wrong with behind them
abbrev pub added_by : Option Trouble → List Added → Added → List Added
added_by (Some trouble) added stream = added
added_by None added stream = added ++ stream ∷ []

abbrev pub added_with : List Added → Added → List Added
added_with added stream = added_by (trouble_among added stream) added stream

-- the stream that a line of these words adds
abbrev pub stream_of : Option (List ℕ) → List ℕ → List ℕ → Added
stream_of name kind path = record { name = name; kind = kind; path = path }

-- what comes of a line that is meant so
abbrev pub verdict_of : List Added → Meaning → Verdict
verdict_of added (Ok NoWords) = Blank
verdict_of added (Ok (Add name class kind path offset)) =
    verdict_with added (stream_of name kind path) class
verdict_of added (Ok command) = Wrong NoAdd
verdict_of added (Err fault) = Wrong (Refused fault)

-- the streams that a start would add up to it
abbrev pub added_after : List Added → Meaning → List Added
added_after added (Ok (Add name class kind path offset)) =
    added_with added (stream_of name kind path)
added_after added meaning = added
