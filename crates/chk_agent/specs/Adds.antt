-- How a stream is added.
use Rattle.std.specs.Prelude.{◌≡◌, ℕ, ◌+◌, ◌<◌, ◌&&◌, Bool, true, false, not, List, [], ◌∷◌, ◌++◌}
use Rattle.std.specs.Prelude.{length, bytes_eq, codes, decimal, if◌then◌else◌, slice_set, Option}
use Rattle.std.specs.Prelude.{Some, None, Result, Ok, Err}
use Rattle.chk_control.specs.declared.Class.{Class}
use Rattle.chk_control.specs.Classes.{is_plain}
use Rattle.chk_site.specs.declared.acts.Call.{Call}
use Rattle.chk_site.specs.declared.acts.Call.TheVariants.{LogNewest}
use Rattle.chk_site.specs.declared.acts.CallFault.TheVariants.{Failed, NoMemory as site_wanting}
use Rattle.chk_site.specs.declared.acts.OutsideFault.TheVariants.{Outside as site_failed}
use Rattle.chk_site.specs.declared.acts.OutsideFault.TheVariants.{NoMemory as no_memory}
use Rattle.chk_site.specs.History.{History}
use Rattle.chk_site.specs.Site.{Adds, asked, answered, suffix_given, Calls}
use Rattle.chk_world.specs.Checkpoints.{Line, most_lines}
use Rattle.chk_agent_adaptor.specs.Adaptors.{Adaptor, adaptor_of, is_past, revived}
use Rattle.chk_agent_delivery.specs.Turns.{begun_at}
use Rattle.chk_agent.specs.declared.answers.AgentFault.{AgentFault}
use Rattle.chk_agent.specs.declared.answers.AgentFault.TheVariants.{Outside, NoMemory}
use Rattle.chk_agent.specs.declared.answers.Added.{Added}
use Rattle.chk_agent.specs.declared.answers.Added.TheVariants.{New, Live as live_already, TooMany}
use Rattle.chk_agent.specs.States.{State, process, lines_of}
use Rattle.chk_agent.specs.Settles.{Writes, saved_now, unsure}

-- the number of the live adaptor of this name
abbrev pub named_in : List ℕ → ℕ → List Adaptor → Option ℕ
named_in name i [] = None
named_in name i (a ∷ adaptors) =
    if not (is_past a.phase) && bytes_eq a.name name then Some i else named_in name (i + 1) adaptors

-- the adaptor of a type and path, a past one too, with its number
pub record Found : Type 0 where
  pub number : ℕ
  pub adaptor : Adaptor

abbrev pub stream_in : List ℕ → List ℕ → ℕ → List Adaptor → Option Found
stream_in kind path i [] = None
stream_in kind path i (a ∷ adaptors) =
    if bytes_eq a.kind kind && bytes_eq a.path path then Some (record { number = i; adaptor = a })
    else stream_in kind path (i + 1) adaptors

abbrev pub default_name : ℕ → List ℕ
default_name n = codes "adaptor_" ++ decimal n

-- the given name, or the first default one that no live adaptor has
abbrev pub IsNameFor : State → Option (List ℕ) → List ℕ → Type 0
IsNameFor s (Some given) name = name ≡ given
IsNameFor s None name =
    (n : ℕ) × (0 < n) × (name ≡ default_name n) × (named_in name 0 s.adaptors ≡ None)
    × ((k : ℕ) → 0 < k → k < n → named_in (default_name k) 0 s.adaptors ≡ None → ⊥)

-- the line of a new stream, behind the newest generation
abbrev pub new_line : List ℕ → Class → List ℕ → List ℕ → ℕ → Option (List ℕ) → Line
new_line name class kind path start after = record {
  live = true;
  name = name;
  class = class;
  kind = kind;
  path = path;
  offset = start;
  first = start;
  after = after;
  start = start;
}

-- the state once the past adaptor of this number lives again, under a new name
abbrev pub revived_at : State → ℕ → List ℕ → Adaptor → State
revived_at s number name a = record s { adaptors = slice_set s.adaptors number (revived name a) }

-- the state with the stream: a past one lives again at its kept place
abbrev pub with_added : State → Option Found → Line → State
with_added s None l = record s {
  adaptors = s.adaptors ++ adaptor_of l ∷ [];
  delivery = begun_at (length s.adaptors) l.start s.delivery;
}
with_added s (Some found) l = revived_at s found.number l.name found.adaptor

-- the number of the adaptor that has the stream then
abbrev pub added_number : State → Option Found → ℕ
added_number s None = length s.adaptors
added_number s (Some found) = found.number

-- the newest suffix is asked for where the stream is new and its class reads generations
abbrev pub asks_newest : Class → Option Found → Bool
asks_newest class None = not (is_plain class)
asks_newest class (Some found) = false

-- the suffix of the newest generation, where it is asked for
pub data IsNewest (s : State) (path : List ℕ) : Bool → Option (List ℕ) → Option History → Option History → Type 0 where
  not_asked : {now : Option History} → IsNewest s path false None now now
  asked_for : {old new : Option History} (newest : Option (List ℕ))
      → Adds old new (Calls (asked (process s) LogNewest (path ∷ []) 0 0) (answered suffix_given (Ok newest)))
      → IsNewest s path true newest old new

-- What becomes of a stream that is to be added: its suffix is asked for, and the checkpoint with it is written. Where a
-- call of that failed, the file may be the old one or the new one. Without memory it is the old one, and nothing changes.
pub data TakesStream (s : State) (name : List ℕ) (class : Class) (kind path : List ℕ) (start : ℕ) (found : Option Found)
    : Result (Unit {0}) AgentFault → State → Option History → Option History → Type 0 where
  written : {t : State} {old mid new : Option History} (after : Option (List ℕ))
      → IsNewest s path (asks_newest class found) after old mid
      → t ≡ with_added s found (new_line name class kind path start after)
      → Writes s (lines_of t) (Ok tt) mid new
      → TakesStream s name class kind path start found (Ok tt) (saved_now t) old new
  failed : {t : State} {old mid new : Option History} (after : Option (List ℕ)) (call : Call)
      → IsNewest s path (asks_newest class found) after old mid
      → t ≡ with_added s found (new_line name class kind path start after)
      → Writes s (lines_of t) (Err (site_failed call)) mid new
      → TakesStream s name class kind path start found (Err (Outside call)) (unsure s) old new
  unwritten : {t : State} {old mid new : Option History} (after : Option (List ℕ))
      → IsNewest s path (asks_newest class found) after old mid
      → t ≡ with_added s found (new_line name class kind path start after)
      → Writes s (lines_of t) (Err no_memory) mid new
      → TakesStream s name class kind path start found (Err NoMemory) s old new
  unkept : {old new : Option History} (after : Option (List ℕ))
      → IsNewest s path (asks_newest class found) after old new
      → TakesStream s name class kind path start found (Err NoMemory) s old new
  unasked : {old new : Option History} → asks_newest class found ≡ true
      → Adds old new (Calls (asked (process s) LogNewest (path ∷ []) 0 0) (answered suffix_given (Err Failed)))
      → TakesStream s name class kind path start found (Err (Outside LogNewest)) s old new
  wanting : {old new : Option History} → asks_newest class found ≡ true
      → Adds old new (Calls (asked (process s) LogNewest (path ∷ []) 0 0) (answered suffix_given (Err site_wanting)))
      → TakesStream s name class kind path start found (Err NoMemory) s old new
  unbegun : {at : Option History} → TakesStream s name class kind path start found (Err NoMemory) s at at

-- ---- the call of a program: no name and no start are given

-- the class that the stream has: a past one keeps its own
abbrev pub class_for : Class → Option Found → Class
class_for class None = class
class_for class (Some found) = found.adaptor.class

-- a past one, or a new one for which there is room
abbrev pub MayTake : Option Found → ℕ → Type 0
MayTake None count = count < most_lines
MayTake (Some found) count = is_past found.adaptor.phase ≡ true

pub data IsAdded (class : Class) (kind path : List ℕ) (s : State) : Result Added AgentFault → State → Option History → Option History → Type 0 where
  live : {now : Option History} (found : Found) → stream_in kind path 0 s.adaptors ≡ Some found
      → is_past found.adaptor.phase ≡ false → IsAdded class kind path s (Ok (live_already found.number)) s now now
  too_many : {now : Option History} → stream_in kind path 0 s.adaptors ≡ None → length s.adaptors ≡ most_lines
      → IsAdded class kind path s (Ok TooMany) s now now
  new : {t : State} {old new : Option History} (name : List ℕ) (found : Option Found)
      → stream_in kind path 0 s.adaptors ≡ found → MayTake found (length s.adaptors) → IsNameFor s None name
      → TakesStream s name (class_for class found) kind path 0 found (Ok tt) t old new
      → IsAdded class kind path s (Ok (New (added_number s found))) t old new
  refused : {t : State} {old new : Option History} (name : List ℕ) (found : Option Found) (fault : AgentFault)
      → stream_in kind path 0 s.adaptors ≡ found → MayTake found (length s.adaptors) → IsNameFor s None name
      → TakesStream s name (class_for class found) kind path 0 found (Err fault) t old new
      → IsAdded class kind path s (Err fault) t old new
  wanting : {now : Option History} → IsAdded class kind path s (Err NoMemory) s now now
