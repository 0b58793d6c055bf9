-- What a control line answers and makes of an agent's state.
use Rattle.std.specs.Prelude.{◌≡◌, ℕ, ◌+◌, ◌==◌, ◌||◌, Bool, true, false, not, List, [], ◌∷◌, ◌++◌}
use Rattle.std.specs.Prelude.{length, if◌then◌else◌, slice_get, slice_set, slice_index, Option}
use Rattle.std.specs.Prelude.{Some, None, Result, Ok, Err}
use Rattle.chk_control.specs.declared.Class.{Class}
use Rattle.chk_control.specs.declared.answers.State.{State as Named}
use Rattle.chk_control.specs.declared.answers.State.TheVariants.{Live as is_live}
use Rattle.chk_control.specs.declared.answers.State.TheVariants.{Stopping as is_stopping}
use Rattle.chk_control.specs.declared.answers.State.TheVariants.{Shrank as has_shrunk}
use Rattle.chk_control.specs.declared.answers.Answer.TheVariants.{Added, Closed, Help as help_text}
use Rattle.chk_control.specs.declared.answers.Answer.TheVariants.{Adaptor as one_adaptor, Listed}
use Rattle.chk_control.specs.declared.answers.Answer.TheVariants.{Reloaded, Stopped, StoppedAll}
use Rattle.chk_control.specs.declared.answers.Answer.TheVariants.{Stopping as stops_later}
use Rattle.chk_control.specs.declared.answers.Answer.TheVariants.{AgentStops, Bad}
use Rattle.chk_control.specs.declared.commands.Command.{Command}
use Rattle.chk_control.specs.declared.commands.Command.TheVariants.{Blank, Add, Close, Help}
use Rattle.chk_control.specs.declared.commands.Command.TheVariants.{List as ListAll}
use Rattle.chk_control.specs.declared.commands.Command.TheVariants.{ReloadCollectors, Stop, StopAll}
use Rattle.chk_control.specs.declared.commands.Command.TheVariants.{Shutdown, StopAgent}
use Rattle.chk_control.specs.Lines.{Meaning, meaning_of}
use Rattle.chk_control.specs.Answers.{answer_text, fault_number}
use Rattle.chk_control.specs.Classes.{same_class}
use Rattle.chk_site.specs.History.{History}
use Rattle.chk_world.specs.Checkpoints.{most_lines}
use Rattle.chk_agent_adaptor.specs.declared.adaptor.Phase.{Phase}
use Rattle.chk_agent_adaptor.specs.declared.adaptor.Phase.TheVariants.{Live, Stopping, Shrank, Past}
use Rattle.chk_agent_adaptor.specs.Adaptors.{Adaptor, is_past, shut_down, stopped}
use Rattle.chk_agent_delivery.specs.Turns.{without_adaptors, is_one_of}
use Rattle.chk_agent.specs.declared.answers.AgentFault.{AgentFault}
use Rattle.chk_agent.specs.declared.answers.AgentFault.TheVariants.{NoMemory}
use Rattle.chk_agent.specs.declared.answers.Then.{Then}
use Rattle.chk_agent.specs.declared.answers.Then.TheVariants.{Go, Close as close_message, End}
use Rattle.chk_agent.specs.declared.answers.Reply.{Reply}
use Rattle.chk_agent.specs.Replies.{reply_of}
use Rattle.chk_agent.specs.States.{State}
use Rattle.chk_agent.specs.Adds.{Found, named_in, stream_in, IsNameFor, TakesStream}

-- ---- lines that call nothing

-- these adaptors are past, at their committed ends
abbrev pub all_past : List ℕ → List ℕ → ℕ → List Adaptor → List Adaptor
all_past gone committed i [] = []
all_past gone committed i (a ∷ adaptors) =
    (if is_one_of gone i then stopped (slice_index committed i) a else a) ∷ all_past gone committed (i + 1) adaptors

-- their chunks and rows are dropped
abbrev pub stopped_state : List ℕ → State → State
stopped_state gone s = record s {
  adaptors = all_past gone s.delivery.table.committed 0 s.adaptors;
  delivery = without_adaptors gone s.delivery;
}

-- the numbers of those that aren't past
abbrev pub live_from : ℕ → List Adaptor → List ℕ
live_from i [] = []
live_from i (a ∷ adaptors) = if is_past a.phase then live_from (i + 1) adaptors else i ∷ live_from (i + 1) adaptors

abbrev pub live_count : State → ℕ
live_count s = length (live_from 0 s.adaptors)

-- one is to end
abbrev pub ending : ℕ → Option Adaptor → State → State
ending i None s = s
ending i (Some a) s = record s { adaptors = slice_set s.adaptors i (shut_down a) }

-- how an adaptor that isn't past stands
abbrev pub state_of : Phase → Option Named
state_of Live = Some is_live
state_of (Stopping end) = Some is_stopping
state_of Shrank = Some has_shrunk
state_of Past = None

abbrev pub list_line : Adaptor → ℕ → Option Named → List ℕ
list_line a committed None = []
list_line a committed (Some state) =
    answer_text (one_adaptor a.name a.class a.kind a.path a.read.offset committed state)

abbrev pub list_lines : List Adaptor → List ℕ → List ℕ
list_lines [] ends = []
list_lines (a ∷ adaptors) [] = list_line a 0 (state_of a.phase) ++ list_lines adaptors []
list_lines (a ∷ adaptors) (o ∷ ends) = list_line a o (state_of a.phase) ++ list_lines adaptors ends

abbrev pub first_again : State → State
first_again s = record s { delivery = record s.delivery { ring = record s.delivery.ring { place = 0; failures = 0 } } }

-- what a line does: the text that answers it, what goes on, and the next state
pub record Effect : Type 0 where
  pub text : List ℕ
  pub on : Then
  pub next : State

abbrev pub goes : List ℕ → State → Option Effect
goes text s = Some (record { text = text; on = Go; next = s })

abbrev pub stop_effect : List ℕ → Option ℕ → State → Option Effect
stop_effect name None s = goes (answer_text (Bad 12)) s
stop_effect name (Some i) s = goes (answer_text (Stopped name)) (stopped_state (i ∷ []) s)

abbrev pub shutdown_effect : List ℕ → Option ℕ → State → Option Effect
shutdown_effect name None s = goes (answer_text (Bad 12)) s
shutdown_effect name (Some i) s = goes (answer_text (stops_later name)) (ending i (slice_get s.adaptors i) s)

-- none where the line adds
abbrev pub plain_effect : Meaning → State → Option Effect
plain_effect (Ok Blank) s = goes [] s
plain_effect (Ok (Add name class kind path offset)) s = None
plain_effect (Ok Close) s = Some (record { text = answer_text Closed; on = close_message; next = s })
plain_effect (Ok Help) s = goes (answer_text help_text) s
plain_effect (Ok ListAll) s =
    goes (list_lines s.adaptors s.delivery.table.committed ++ answer_text (Listed (live_count s))) s
plain_effect (Ok ReloadCollectors) s =
    goes (answer_text (Reloaded (length s.delivery.ring.addresses))) (first_again s)
plain_effect (Ok (Stop name)) s = stop_effect name (named_in name 0 s.adaptors) s
plain_effect (Ok StopAll) s = goes (answer_text (StoppedAll (live_count s))) (stopped_state (live_from 0 s.adaptors) s)
plain_effect (Ok (Shutdown name)) s = shutdown_effect name (named_in name 0 s.adaptors) s
plain_effect (Ok StopAgent) s = Some (record { text = answer_text AgentStops; on = End; next = s })
plain_effect (Err fault) s = goes (answer_text (Bad (fault_number fault))) s

-- the command adds nothing
abbrev pub adds_none : Command → Bool
adds_none (Add name class kind path offset) = false
adds_none command = true

-- such a command was done; without memory nothing changed
pub data RunsPlainly (m : Meaning) (s : State) : Result Reply AgentFault → State → Type 0 where
  did : (e : Effect) → plain_effect m s ≡ Some e → RunsPlainly m s (Ok (reply_of e.text e.on)) e.next
  unmade : RunsPlainly m s (Err NoMemory) s

-- the reply of a text, or want of memory for it
abbrev pub IsAnswered : List ℕ → Then → Result Reply AgentFault → Type 0
IsAnswered text on (Ok reply) = reply ≡ reply_of text on
IsAnswered text on (Err fault) = fault ≡ NoMemory

-- ---- `add`

-- the number of the refusal: by the adaptor of this name, the one of this stream, how many there are, and what was asked
abbrev pub add_refusal : Option ℕ → Option Found → ℕ → Class → ℕ → Option ℕ
add_refusal (Some named) found count class offset = Some 9
add_refusal None None count class offset = if count == most_lines then Some 11 else None
add_refusal None (Some found) count class offset =
    if not (is_past found.adaptor.phase) then Some 10
    else if not (same_class found.adaptor.class class) then Some 13
    else if offset == 0 || offset == found.adaptor.start then None else Some 14

-- Any line. Without memory nothing changes, but what a call of the outside may have left.
pub data IsCommand (line : List ℕ) (s : State) : Result Reply AgentFault → State → Option History → Option History → Type 0 where
  plainly : {now : Option History} (e : Effect) → plain_effect (meaning_of line) s ≡ Some e
      → IsCommand line s (Ok (reply_of e.text e.on)) e.next now now
  refused_add : {now : Option History} (given : Option (List ℕ)) (class : Class) (kind path name : List ℕ) (offset n : ℕ)
      → meaning_of line ≡ Ok (Add given class kind path offset) → IsNameFor s given name
      → add_refusal (named_in name 0 s.adaptors) (stream_in kind path 0 s.adaptors) (length s.adaptors) class offset ≡ Some n
      → IsCommand line s (Ok (reply_of (answer_text (Bad n)) Go)) s now now
  added : {t : State} {old new : Option History} (given : Option (List ℕ)) (class : Class) (kind path name : List ℕ) (offset : ℕ)
      → meaning_of line ≡ Ok (Add given class kind path offset) → IsNameFor s given name
      → add_refusal (named_in name 0 s.adaptors) (stream_in kind path 0 s.adaptors) (length s.adaptors) class offset ≡ None
      → TakesStream s name class kind path offset (stream_in kind path 0 s.adaptors) (Ok tt) t old new
      → IsCommand line s (Ok (reply_of (answer_text (Added name)) Go)) t old new
  failed_add : {t : State} {old new : Option History} (given : Option (List ℕ)) (class : Class) (kind path name : List ℕ) (offset : ℕ)
      (fault : AgentFault)
      → meaning_of line ≡ Ok (Add given class kind path offset) → IsNameFor s given name
      → add_refusal (named_in name 0 s.adaptors) (stream_in kind path 0 s.adaptors) (length s.adaptors) class offset ≡ None
      → TakesStream s name class kind path offset (stream_in kind path 0 s.adaptors) (Err fault) t old new
      → IsCommand line s (Err fault) t old new
  wanting : {now : Option History} → IsCommand line s (Err NoMemory) s now now
