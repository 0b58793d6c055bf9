-- The texts of answers.
use Rattle.std.specs.Prelude.{ℕ, Bool, true, ◌&&◌, ◌==◌, nat_le, List, ◌++◌, codes, decimal, if◌then◌else◌}
use Rattle.chk_control.specs.declared.Class.{Class}
use Rattle.chk_control.specs.declared.commands.LineFault.{LineFault}
use Rattle.chk_control.specs.declared.commands.LineFault.TheVariants.{Unknown, MissingWord, BadOffset, BadClass, NotUtf8, LongLine, ExtraWord, BadWord, NoMemory}
use Rattle.chk_control.specs.declared.answers.State.{State}
use Rattle.chk_control.specs.declared.answers.State.TheVariants.{Live, Stopping as IsStopping, Shrank}
use Rattle.chk_control.specs.declared.answers.Answer.{Answer}
use Rattle.chk_control.specs.declared.answers.Answer.TheVariants.{Added, Closed, Help, Adaptor, Listed, Reloaded, Stopped, StoppedAll, Stopping, AgentStops, Bad}
use Rattle.chk_control.specs.Classes.{class_name}

-- the number of a refused line's fault; want of memory has none
abbrev pub fault_number : LineFault → ℕ
fault_number Unknown = 1
fault_number MissingWord = 2
fault_number BadOffset = 3
fault_number BadClass = 4
fault_number NotUtf8 = 5
fault_number LongLine = 6
fault_number ExtraWord = 7
fault_number BadWord = 8
fault_number NoMemory = 0

-- the names of the refusals 1 to 14; from 9 on they are the agent's
abbrev pub bad_name : ℕ → List ℕ
bad_name number =
    if number == 1 then codes "Unknown"
    else if number == 2 then codes "MissingWord"
    else if number == 3 then codes "BadOffset"
    else if number == 4 then codes "BadClass"
    else if number == 5 then codes "NotUtf8"
    else if number == 6 then codes "LongLine"
    else if number == 7 then codes "ExtraWord"
    else if number == 8 then codes "BadWord"
    else if number == 9 then codes "NameInUse"
    else if number == 10 then codes "StreamInUse"
    else if number == 11 then codes "TooMany"
    else if number == 12 then codes "NoAdaptor"
    else if number == 13 then codes "OtherClass"
    else codes "OtherStart"

-- a refusal has a number that has a name
abbrev pub is_answer : Answer → Bool
is_answer (Bad number) = nat_le 1 number && nat_le number 14
is_answer answer = true

-- the word for a state
abbrev pub state_name : State → List ℕ
state_name Live = codes "live"
state_name IsStopping = codes "stopping"
state_name Shrank = codes "shrank"

-- an adaptor's words in its line of the list
abbrev pub words_text : List ℕ → Class → List ℕ → List ℕ → List ℕ
words_text name class kind path =
    name ++ codes " " ++ class_name class ++ codes " " ++ kind ++ codes " " ++ path ++ codes " "

-- how far it was read and how far that is committed, and its state
abbrev pub progress_text : ℕ → ℕ → State → List ℕ
progress_text read_to committed state =
    decimal read_to ++ codes " " ++ decimal committed ++ codes " " ++ state_name state ++ codes "\n"

-- a refusal by its number and name
abbrev pub refusal_text : ℕ → List ℕ
refusal_text number = codes "BAD " ++ decimal number ++ codes " " ++ bad_name number ++ codes "\n"

-- the line that answers, with its newline
unfoldable pub answer_text : Answer → List ℕ
answer_text (Added name) = codes "OK add completed; new ID is " ++ name ++ codes "\n"
answer_text Closed = codes "OK close\n"
answer_text Help =
    codes "commands: add close help list reloadcollectors stop stopall shutdown stopagent\n"
answer_text (Adaptor name class kind path read_to committed state) =
    words_text name class kind path ++ progress_text read_to committed state
answer_text (Listed count) = codes "OK " ++ decimal count ++ codes " adaptors\n"
answer_text (Reloaded count) = codes "OK " ++ decimal count ++ codes " collectors\n"
answer_text (Stopped name) = codes "OK adaptor " ++ name ++ codes " stopped\n"
answer_text (StoppedAll count) = codes "OK stopped " ++ decimal count ++ codes " adaptors\n"
answer_text (Stopping name) = codes "OK adaptor " ++ name ++ codes " stopping\n"
answer_text AgentStops = codes "OK agent stops\n"
answer_text (Bad number) = refusal_text number
