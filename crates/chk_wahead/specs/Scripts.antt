-- Which calls each call of the buffers makes, in turn.
use Rattle.std.specs.Prelude.{◌≡◌, ℕ, ◌+◌, ◌==◌, List, [], ◌∷◌, ◌++◌, length, Option, Some, None, Result, Ok, Err, MatchBool, if◌then◌else◌}
use Rattle.chk_bytes.specs.Numbers.{be64}
use Rattle.chk_site.specs.declared.acts.Who.{Who}
use Rattle.chk_site.specs.declared.acts.Call.TheVariants.{Create, Append, Sync, Rename, Remove}
use Rattle.chk_site.specs.declared.acts.OutsideFault.{OutsideFault}
use Rattle.chk_site.specs.History.{History}
use Rattle.chk_site.specs.Site.{Asked, asked}
use Rattle.chk_site.specs.Runs.{MadeInTurn}
use Rattle.chk_replace.specs.Replace.{replacement}
use Rattle.chk_wahead.specs.declared.fault.WaheadFault.{WaheadFault}
use Rattle.chk_wahead.specs.declared.fault.WaheadFault.TheVariants.{Spent}
use Rattle.chk_wahead.specs.Faults.{wahead_result}
use Rattle.chk_wahead.specs.Names.{next_name, buffer_name, mark_name, closed_name}
use Rattle.chk_wahead.specs.States.{State, Held, left, longer, last_number}

-- the number of the last buffer becomes this one, and an empty buffer is made
abbrev pub beginning : Who → List ℕ → List ℕ → ℕ → List Asked
beginning who next buffer number = replacement who next (be64 number) ++ (asked who Create (buffer ∷ []) 0 0 ∷ [])

-- the bytes are added to the buffer
abbrev pub adding : Who → List ℕ → List ℕ → Asked
adding who buffer bytes = asked who Append (buffer ∷ bytes ∷ []) 0 0

-- the buffer is synced, and then its mark is replaced by its length
abbrev pub marking : Who → List ℕ → List ℕ → ℕ → List Asked
marking who buffer mark size = asked who Sync (buffer ∷ []) 0 0 ∷ replacement who mark (be64 size)

-- the buffer becomes a closed one, and then its mark is removed
abbrev pub shutting : Who → List ℕ → List ℕ → List ℕ → List Asked
shutting who buffer closed mark =
    asked who Rename (buffer ∷ closed ∷ []) 0 0 ∷ asked who Remove (mark ∷ []) 0 0 ∷ []

-- the calls for the first bytes of a buffer of this number
abbrev pub first_calls : Who → ℕ → List ℕ → List Asked
first_calls who number bytes =
    beginning who (next_name who.name) (buffer_name who.name) number ++ (adding who (buffer_name who.name) bytes ∷ [])

-- the calls of a commit: none where the mark says the whole buffer
abbrev pub commit_of : Who → Option Held → List Asked
commit_of who None = []
commit_of who (Some h) =
    if h.marked == h.length_now then [] else marking who (buffer_name who.name) (mark_name who.name) h.length_now

-- the calls of a close
abbrev pub close_of : Who → ℕ → Option Held → List Asked
close_of who number None = []
close_of who number (Some h) =
    commit_of who (Some h) ++ shutting who (buffer_name who.name) (closed_name who.name number) (mark_name who.name)

-- These calls were made in turn, up to one that ended the work. Where they were done, the number and the buffer are
-- these; after a refusal nothing but `ready` has changed.
pub record Did (calls : List Asked) (s : State) (number : ℕ) (held : Option Held) (result : Result (Unit {0}) WaheadFault)
    (s' : State) (old new : Option History) : Type 0 where
  pub outside : Result (Unit {0}) OutsideFault
  pub result_is : result ≡ wahead_result outside
  pub made : MadeInTurn calls outside old new
  pub state_is : s' ≡ left s number held outside

-- it is refused since no number is left, and nothing was done
pub record IsSpent (s : State) (result : Result (Unit {0}) WaheadFault) (s' : State) (old new : Option History) : Type 0 where
  pub result_is : result ≡ Err (Spent s.number)
  pub state_is : s' ≡ s
  pub told_is : new ≡ old

-- no bytes were given, and nothing was done
pub record IsEmpty (s : State) (result : Result (Unit {0}) WaheadFault) (s' : State) (old new : Option History) : Type 0 where
  pub result_is : result ≡ Ok tt
  pub state_is : s' ≡ s
  pub told_is : new ≡ old

-- The bytes are added to the buffer where there is one. Else the next buffer is made for them, where a number is left.
abbrev pub PutsIn : Option Held → State → List ℕ → Result (Unit {0}) WaheadFault → State → Option History → Option History → Type 0
PutsIn None s bytes result s' old new =
    MatchBool (s.number == last_number) (IsSpent s result s' old new)
    (Did (first_calls s.who (s.number + 1) bytes) s (s.number + 1) (Some (longer (length bytes) None)) result s' old new)
PutsIn (Some h) s bytes result s' old new =
    Did (adding s.who (buffer_name s.who.name) bytes ∷ []) s s.number (Some (longer (length bytes) (Some h))) result s' old new

-- what is done for bytes that are put: nothing for none
abbrev pub Puts : State → List ℕ → Result (Unit {0}) WaheadFault → State → Option History → Option History → Type 0
Puts s [] result s' old new = IsEmpty s result s' old new
Puts s (b ∷ bytes) result s' old new = PutsIn s.held s (b ∷ bytes) result s' old new
