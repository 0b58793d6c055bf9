-- What was found in the words of a command.
use Rattle.std.specs.Prelude.{◌≡◌, List, Option, Some, None, Result, Ok, Err}
use Rattle.clap.specs.Walk.{Row, rows_of}
use Rattle.clap.specs.Matches.{found_of}
use Rattle.chk_cmd_line.specs.declared.options.Given.{Given}
use Rattle.chk_cmd_line.specs.declared.commands.WordsFault.{WordsFault}
use Rattle.chk_cmd_line.specs.declared.commands.WordsFault.TheVariants.{Usage, NoMemory}

-- the options and the other words
abbrev pub rows_in : Given → List Row
rows_in given = rows_of (found_of given.matches)

-- they are found where the words are taken, and Usage comes where they aren't, unless there was no memory
abbrev pub ReadsOptions : Option (List Row) → Result Given WordsFault → Type 0
ReadsOptions rows (Ok given) = rows ≡ Some (rows_in given)
ReadsOptions rows (Err Usage) = rows ≡ None
ReadsOptions rows (Err NoMemory) = Unit {0}
