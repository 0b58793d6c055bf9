-- The lines of an initial file, each of which adds a stream.
use Rattle.std.specs.Prelude.{◌≡◌, ◌≢◌, ℕ, ◌+◌, Bool, true, false, ◌&&◌, not, List, [], ◌∷◌, length, bytes_eq, Option, Some, None, Result, Ok, Err}
use Rattle.std.specs.List.{list_any}
use Rattle.chk_control.specs.declared.commands.Command.TheVariants.{Blank, Add}
use Rattle.chk_control.specs.declared.Class.{Class}
use Rattle.chk_control.specs.declared.answers.Answer.TheVariants.{Bad}
use Rattle.chk_control.specs.Answers.{answer_text}
use Rattle.chk_control.specs.Lines.{Meaning, meaning_of}
use Rattle.chk_site.specs.declared.acts.Who.{Who}
use Rattle.chk_site.specs.declared.acts.OutsideFault.{OutsideFault}
use Rattle.chk_site.specs.History.{Step, History}
use Rattle.chk_replace.specs.Load.{ReadInTurn, IsLook}
use Rattle.chk_agent_adaptor.specs.Adaptors.{Adaptor, is_past}
use Rattle.chk_agent.specs.declared.answers.AgentFault.{AgentFault}
use Rattle.chk_agent.specs.declared.answers.AgentFault.TheVariants.{NoMemory}
use Rattle.chk_agent.specs.declared.answers.Reply.{Reply}
use Rattle.chk_agent.specs.declared.answers.Then.TheVariants.{Go}
use Rattle.chk_agent.specs.Replies.{reply_of}
use Rattle.chk_agent.specs.States.{State}
use Rattle.chk_agent.specs.Commands.{IsCommand}
use Rattle.chk_agent_run.specs.declared.faults.RunFault.{RunFault}
use Rattle.chk_agent_run.specs.declared.faults.RunFault.TheVariants.{Initial}
use Rattle.chk_agent_run.specs.declared.initial.Wanted.{Wanted}
use Rattle.chk_agent_run.specs.declared.initial.Wanted.TheVariants.{Nothing, Stream, Other}
use Rattle.chk_agent_run.specs.Faults.{fault_of}

-- ---- the file

-- the bytes of a file; one that isn't there counts as empty
abbrev pub text_of : Result (Option (List ℕ)) OutsideFault → Result (List ℕ) OutsideFault
text_of (Ok None) = Ok []
text_of (Ok (Some bytes)) = Ok bytes
text_of (Err fault) = Err fault

-- the file is read to its end, where one is named
pub data ReadsInitial (writer : Who) : Option (List ℕ) → Result (List ℕ) OutsideFault → Option History → Option History → Type 0 where
  no_file : {now : Option History} → ReadsInitial writer None (Ok []) now now
  read : {old new : Option History} (file : List ℕ) (given : Result (Option (List ℕ)) OutsideFault)
      → ReadInTurn writer file [] given old new → ReadsInitial writer (Some file) (text_of given) old new

-- each step is a read of one file by the writer, or one of others
abbrev pub LooksAt : Who → History → Step → Type 0
LooksAt writer before step = (file : List ℕ) × IsLook writer file before step

-- ---- a line

abbrev pub is_add : Meaning → Bool
is_add (Ok (Add name class kind path offset)) = true
is_add meaning = false

-- the line adds the stream of this type and path
pub record AddsStream (kind path : List ℕ) (meaning : Meaning) : Type 0 where
  pub name : Option (List ℕ)
  pub class : Class
  pub offset : ℕ
  pub is : meaning ≡ Ok (Add name class kind path offset)

-- what a line is taken for
abbrev pub Wants : Meaning → Wanted → Type 0
Wants meaning Nothing = meaning ≡ Ok Blank
Wants meaning (Stream kind path) = AddsStream kind path meaning
Wants meaning Other = (is_add meaning ≡ false) × (meaning ≢ Ok Blank)

-- the adaptor isn't past, and reads the stream of this type and path
abbrev pub reads : List ℕ → List ℕ → Adaptor → Bool
reads kind path a = not (is_past a.phase) && (bytes_eq a.kind kind && bytes_eq a.path path)

-- one of these reads the stream
abbrev pub is_live_in : List ℕ → List ℕ → List Adaptor → Bool
is_live_in kind path adaptors = list_any (reads kind path) adaptors

-- the line is blank, or its stream is read: there is nothing to do for it
abbrev pub is_met : State → Meaning → Bool
is_met s (Ok Blank) = true
is_met s (Ok (Add name class kind path offset)) = is_live_in kind path s.adaptors
is_met s meaning = false

-- A line is skipped where there is nothing to do for it, and an `add` is run. It says whether the line was skipped or
-- accepted: its stream is read then. A refused one changes nothing.
pub data IsLineAdded (line : List ℕ) (s : State) : Result Bool AgentFault → State → Option History → Option History → Type 0 where
  skipped : {now : Option History} → is_met s (meaning_of line) ≡ true → IsLineAdded line s (Ok true) s now now
  no_add : {now : Option History} → is_met s (meaning_of line) ≡ false → is_add (meaning_of line) ≡ false
      → IsLineAdded line s (Ok false) s now now
  accepted : {t : State} {old new : Option History} (reply : Reply) → is_met s (meaning_of line) ≡ false
      → is_add (meaning_of line) ≡ true → IsCommand line s (Ok reply) t old new → is_met t (meaning_of line) ≡ true
      → IsLineAdded line s (Ok true) t old new
  refused : {now : Option History} (n : ℕ) → is_met s (meaning_of line) ≡ false → is_add (meaning_of line) ≡ true
      → IsCommand line s (Ok (reply_of (answer_text (Bad n)) Go)) s now now → IsLineAdded line s (Ok false) s now now
  failed : {t : State} {old new : Option History} (fault : AgentFault) → is_met s (meaning_of line) ≡ false
      → is_add (meaning_of line) ≡ true → IsCommand line s (Err fault) t old new → IsLineAdded line s (Err fault) t old new
  wanting : {now : Option History} → IsLineAdded line s (Err NoMemory) s now now

-- The lines in order, the first of which begins at this byte of the file, up to a bad one, or to a fault.
pub data AreAdded : ℕ → List (List ℕ) → State → Result (Unit {0}) RunFault → State → Option History → Option History → Type 0 where
  all_added : {at : ℕ} {s : State} {now : Option History} → AreAdded at [] s (Ok tt) s now now
  on : {at : ℕ} {line : List ℕ} {lines : List (List ℕ)} {s t u : State} {result : Result (Unit {0}) RunFault} {old mid new : Option History}
      → IsLineAdded line s (Ok true) t old mid → AreAdded (at + length line + 1) lines t result u mid new
      → AreAdded at (line ∷ lines) s result u old new
  bad : {at : ℕ} {line : List ℕ} {lines : List (List ℕ)} {s t : State} {old new : Option History}
      → IsLineAdded line s (Ok false) t old new → AreAdded at (line ∷ lines) s (Err (Initial at)) t old new
  failed : {at : ℕ} {line : List ℕ} {lines : List (List ℕ)} {s t : State} {old new : Option History} (fault : AgentFault)
      → IsLineAdded line s (Err fault) t old new → AreAdded at (line ∷ lines) s (Err (fault_of fault)) t old new
