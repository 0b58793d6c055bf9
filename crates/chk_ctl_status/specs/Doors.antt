-- What control doors answer, and the text that shows it.
use Rattle.std.specs.Prelude.{ℕ, ◌-◌, ◌==◌, ◌&&◌, ◌||◌, not, nat_le, Bool, true, false, List}
use Rattle.std.specs.Prelude.{[], ◌∷◌, ◌++◌, length, codes, count_by, decimal, if◌then◌else◌, is_some}
use Rattle.std.specs.Prelude.{Option, Some, None, Result, Ok, Err}
use Rattle.std.specs.List.{list_all}
use Rattle.chk_bytes.specs.Words.{before_end}
use Rattle.chk_site.specs.declared.acts.Call.TheVariants.{Got, Send}
use Rattle.chk_site.specs.declared.acts.CallFault.{CallFault}
use Rattle.chk_site.specs.declared.acts.CallFault.TheVariants as call
use Rattle.chk_site.specs.declared.acts.OutsideFault.{OutsideFault}
use Rattle.chk_site.specs.declared.acts.OutsideFault.TheVariants.{NoMemory as no_memory}
use Rattle.chk_site.specs.Acts.{Deed, Gets, Sends}
use Rattle.chk_site.specs.History.{History}
use Rattle.chk_site.specs.Site.{answered as answered_by, asked, bytes_given, sized, Adds, Asked}
use Rattle.chk_site.specs.Site.{Calls, CallsSome}
use Rattle.chk_world.specs.Sight.{job}
use Rattle.chk_ctl_status.specs.declared.doors.Door.{Door}
use Rattle.chk_ctl_status.specs.declared.doors.Door.TheVariants as door

-- the calls of one who asks for a list: he sends `list` and gets an answer
pub data AsksList : Deed → Type 0 where
  sends : (n : ℕ) (address : List ℕ) → AsksList (Sends n address (codes "list\n"))
  gets : (n : ℕ) → AsksList (Gets n)

-- no answer where a call failed
abbrev pub unsent_as : CallFault → Result (Option (List ℕ)) OutsideFault
unsent_as call.NoMemory = Err no_memory
unsent_as fault = Ok None

abbrev pub answer_of : Result (List ℕ) CallFault → Result (Option (List ℕ)) OutsideFault
answer_of (Ok bytes) = Ok (Some bytes)
answer_of (Err fault) = unsent_as fault

-- the calls
abbrev pub sending : List ℕ → ℕ → Asked
sending address n = asked job Send (address ∷ codes "list\n" ∷ []) n 0

abbrev pub getting : ℕ → Asked
getting n = asked job Got [] n 0

-- the answer to a message is got
pub data ListGot (n : ℕ) : Result (Option (List ℕ)) OutsideFault → Option History
    → Option History → Type 0 where
  got : {old new : Option History} (given : Result (List ℕ) CallFault)
      → Adds old new (Calls (getting n) (answered_by bytes_given given))
      → ListGot n (answer_of given) old new

-- the message is sent before
pub data ListAsked (address : List ℕ) : Result (Option (List ℕ)) OutsideFault → Option History
    → Option History → Type 0 where
  unsent : {old new : Option History} (fault : CallFault)
      → Adds old new (CallsSome (sending address) (λ m. answered_by sized (Err fault)))
      → ListAsked address (unsent_as fault) old new
  sent : {result : Result (Option (List ℕ)) OutsideFault} {old mid new : Option History} (n : ℕ)
      → Adds old mid (CallsSome (sending address) (λ m. answered_by sized (Ok n)))
      → ListGot n result mid new → ListAsked address result old new

-- a newline, and a byte that is one or no control character
abbrev pub is_newline : ℕ → Bool
is_newline byte = byte == 10

abbrev pub is_shown : ℕ → Bool
is_shown byte = is_newline byte || nat_le 32 byte && not (byte == 127)

-- lines of such bytes, each with its newline
abbrev pub are_lines : List ℕ → Bool
are_lines lines =
    (length lines == 0 || is_some (before_end (codes "\n") lines)) && list_all is_shown lines

-- the last line of a list
abbrev pub last_line : ℕ → List ℕ
last_line count = codes "OK " ++ (decimal count ++ codes " adaptors\n")

-- what stands in front of it
abbrev pub lines_or_none : Option (List ℕ) → Option (List ℕ)
lines_or_none None = None
lines_or_none (Some lines) = if are_lines lines then Some lines else None

abbrev pub lines_before : List ℕ → List ℕ → Option (List ℕ)
lines_before end answer = lines_or_none (before_end end answer)

-- a list, where its last line tells how many lines stand in front of it
abbrev pub door_in : Option (List ℕ) → Door
door_in None = door.NoList
door_in (Some lines) = door.List lines

abbrev pub answered : List ℕ → Door
answered answer = door_in (lines_before (last_line (count_by is_newline answer - 1)) answer)

abbrev pub door_of : Option (List ℕ) → Door
door_of None = door.Silent
door_of (Some answer) = answered answer

-- no list came
abbrev pub has_trouble : Door → Bool
has_trouble (door.List lines) = false
has_trouble d = true

-- what is told of the door
abbrev pub streams_in : List ℕ → List ℕ
streams_in lines = decimal (count_by is_newline lines) ++ codes " streams"

abbrev pub found_in : Door → List ℕ
found_in door.Silent = codes "no answer"
found_in door.NoList = codes "no list"
found_in (door.List lines) = streams_in lines

abbrev pub door_head : List ℕ → List ℕ → Door → List ℕ
door_head name address d =
    codes "control " ++ (name ++ (codes " at " ++ (address ++ (codes ": " ++ (found_in d
    ++ codes "\n")))))

abbrev pub lines_of : Door → List ℕ
lines_of (door.List lines) = lines
lines_of d = []

-- for people, and in one line
abbrev pub door_text : List ℕ → List ℕ → Door → List ℕ
door_text name address d = door_head name address d ++ lines_of d

abbrev pub door_line : List ℕ → List ℕ → Door → List ℕ
door_line name address d =
    (if has_trouble d then codes "WARNING" else codes "OK")
    ++ (codes " - " ++ door_head name address d)
