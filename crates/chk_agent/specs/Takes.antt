-- The parts of the taking of a stream.
use Rattle.std.specs.Prelude.{◌≡◌, ℕ, ◌<◌, Bool, true, IsTrue, List, [], ◌∷◌, ◌++◌, length}
use Rattle.std.specs.Prelude.{MatchBool, Option, Some, None, Result, Ok, Err}
use Rattle.chk_control.specs.declared.Class.{Class}
use Rattle.chk_control.specs.Classes.{is_plain}
use Rattle.chk_site.specs.declared.acts.Call.{Call}
use Rattle.chk_site.specs.declared.acts.Call.TheVariants.{LogNewest}
use Rattle.chk_site.specs.declared.acts.CallFault.TheVariants.{Failed, NoMemory as site_wanting}
use Rattle.chk_site.specs.declared.acts.OutsideFault.{OutsideFault}
use Rattle.chk_site.specs.declared.acts.OutsideFault.TheVariants.{Outside as site_failed}
use Rattle.chk_site.specs.declared.acts.OutsideFault.TheVariants.{NoMemory as no_memory}
use Rattle.chk_site.specs.History.{History, since_start}
use Rattle.chk_site.specs.Site.{Adds, asked, answered, suffix_given, Calls}
use Rattle.chk_world.specs.Agents.{last_newest}
use Rattle.chk_world.specs.Checkpoints.{Line, is_line, most_lines}
use Rattle.chk_agent_adaptor.specs.Adaptors.{Adaptor, adaptor_of, line_at}
use Rattle.chk_world.specs.Places.{AtTold}
use Rattle.chk_world.specs.Knowing.{agent, Both, Knows}
use Rattle.chk_agent.specs.declared.answers.AgentFault.{AgentFault}
use Rattle.chk_agent.specs.declared.answers.AgentFault.TheVariants.{Outside, NoMemory}
use Rattle.chk_agent.specs.States.{State, process, lines_of}
use Rattle.chk_agent.specs.Facts.{Holds}
use Rattle.chk_agent.specs.Settles.{Writes, saved_now, unsure}
use Rattle.chk_agent.specs.Adds.{Found, IsNameFor, IsNewest, TakesStream, named_in, stream_in}

-- the newest suffix was asked for, where it is to be
abbrev pub Asks : State → List ℕ → Bool → Result (Option (List ℕ)) OutsideFault → Option History → Option History → Type 0
Asks s path asks (Ok after) old new = IsNewest s path asks after old new
Asks s path asks (Err (site_failed call)) old new =
    (asks ≡ true) × (call ≡ LogNewest)
    × Adds old new (Calls (asked (process s) LogNewest (path ∷ []) 0 0) (answered suffix_given (Err Failed)))
Asks s path asks (Err no_memory) old new =
    (asks ≡ true) × Adds old new (Calls (asked (process s) LogNewest (path ∷ []) 0 0) (answered suffix_given (Err site_wanting)))

-- the line of a stream that no adaptor has, under a name that no live one has, at its start
pub record IsNewLine (s : State) (l : Line) : Type 0 where
  pub spelled : IsTrue (is_line l)
  pub live : l.live ≡ true
  pub first : l.first ≡ l.start
  pub offset : l.offset ≡ l.start
  pub stream : stream_in l.kind l.path 0 s.adaptors ≡ None
  pub name : named_in l.name 0 s.adaptors ≡ None
  pub room : length s.adaptors < most_lines

-- the adaptor of a new line, which begins there, and the lines with that line more
pub record IsMore (s : State) (l : Line) (from : ℕ) (a : Adaptor) (lines : List Line) : Type 0 where
  pub new : IsNewLine s l
  pub start : from ≡ l.start
  pub adaptor : a ≡ adaptor_of l
  pub lines_are : lines ≡ lines_of s ++ line_at l.start a ∷ []

-- its suffix is the answer of the last question for the newest one, where its class reads generations
abbrev pub SuffixIsNewest : List ℕ → Line → History → Type 0
SuffixIsNewest source l history =
    MatchBool (is_plain l.class) (l.after ≡ None) (last_newest l.path (since_start (agent source) history) ≡ Some l.after)

-- the history holds the state, and the suffix is the newest one
abbrev pub MatchesNewest : List (List ℕ) → State → Line → History → Type 0
MatchesNewest stamped s l history =
    AtTold stamped (process s) (Knows s.source s.cluster s.saved (Both (Holds s) (SuffixIsNewest s.source l))) history

-- the checkpoint is written with a line more, or with one that lives again, which makes this state
pub data Keeps (s t : State) : Result (Unit {0}) AgentFault → State → Option History → Option History → Type 0 where
  kept : {old new : Option History} → Writes s (lines_of t) (Ok tt) old new → Keeps s t (Ok tt) (saved_now t) old new
  failed : {old new : Option History} (call : Call) → Writes s (lines_of t) (Err (site_failed call)) old new
      → Keeps s t (Err (Outside call)) (unsure s) old new
  unwritten : {old new : Option History} → Writes s (lines_of t) (Err no_memory) old new
      → Keeps s t (Err NoMemory) s old new
  wanting : {now : Option History} → Keeps s t (Err NoMemory) s now now

-- a stream is taken under a default name
pub data TakesNamed (s : State) (class : Class) (kind path : List ℕ) (found : Option Found)
    : Result (Unit {0}) AgentFault → State → Option History → Option History → Type 0 where
  named : {t : State} {result : Result (Unit {0}) AgentFault} {old new : Option History} (name : List ℕ) → IsNameFor s None name
      → TakesStream s name class kind path 0 found result t old new → TakesNamed s class kind path found result t old new
  wanting : {now : Option History} → TakesNamed s class kind path found (Err NoMemory) s now now
