-- The parts of a start: its process is started, the number of its last start is read, and the next one is published.
use Rattle.std.specs.Prelude.{◌≡◌, ℕ, Bool, true, false, ◌==◌, List, [], ◌∷◌, Option, Some, None, Result, Ok, Err, MatchResult}
use Rattle.chk_site.specs.declared.acts.Who.{Who}
use Rattle.chk_site.specs.declared.acts.Call.TheVariants.{Read}
use Rattle.chk_site.specs.declared.acts.CallFault.{CallFault}
use Rattle.chk_site.specs.declared.acts.OutsideFault.{OutsideFault}
use Rattle.chk_site.specs.History.{History, Every, files_after}
use Rattle.chk_site.specs.Site.{Adds, asked, answered, bytes_given, Calls, Ends, IsTaken}
use Rattle.chk_world.specs.Names.{BornFile, file}
use Rattle.chk_world.specs.Committed.{number_in}
use Rattle.chk_world.specs.Collectors.{view}
use Rattle.chk_world.specs.Rules.{Legal}
use Rattle.chk_world.specs.Places.{AtTold}
use Rattle.chk_sink.specs.declared.fault.SinkFault.{SinkFault}
use Rattle.chk_sink.specs.declared.fault.SinkFault.TheVariants.{Damaged, Spent}
use Rattle.chk_sink.specs.States.{State, last_number}
use Rattle.chk_sink.specs.Damage.{number_from, damage_in, has_read_last, IsLookOnly}

-- the number of the collector's last start, by what was read of its file; 0 where that isn't there
abbrev pub start_number : Option (List ℕ) → Option ℕ
start_number None = Some 0
start_number (Some bytes) = number_from 0 bytes

-- the number is the one that the read gave
pub record IsNumberGiven (given : Result (List ℕ) CallFault) (number : Option ℕ) : Type 0 where
  pub taken : Option (List ℕ)
  pub is_taken : IsTaken given taken
  pub is : number ≡ start_number taken

-- the file was read once, and gave this number, or the read ended the work
pub record ReadsNumber (who : Who) (name : List ℕ) (result : Result (Option ℕ) OutsideFault) (old new : Option History) : Type 0 where
  pub given : Result (List ℕ) CallFault
  pub came : MatchResult result (λ number. IsNumberGiven given number) (λ fault. Ends Read given fault)
  pub told : Adds old new (Calls (asked who Read (name ∷ []) 0 9) (answered bytes_given given))

-- the collector has started, published no number and created no sink, and this is the number in its file
pub record HasLooked (who : Who) (number : Option ℕ) (history : History) : Type 0 where
  pub born : (view who history).born ≡ None
  pub made : (view who history).made ≡ 0
  pub is : number ≡ Some (number_in (file (files_after history) (BornFile who.name)))

-- the told history stays legal, and so it is where the calls were done
abbrev pub Looked : List (List ℕ) → Who → Result (Option ℕ) OutsideFault → History → Type 0
Looked stamped who (Ok number) history = AtTold stamped who (HasLooked who number) history
Looked stamped who (Err fault) history = Legal stamped history

-- the file of this name is damaged where no number was read
abbrev pub damaged_name : List ℕ → Result (Option ℕ) OutsideFault → Option (List ℕ)
damaged_name name (Ok None) = Some name
damaged_name name result = None

-- the number that was read is the last one
abbrev pub is_last_start : Result (Option ℕ) OutsideFault → Bool
is_last_start (Ok (Some number)) = number == last_number
is_last_start result = false

-- the site's own steps show just what was read, and change nothing
pub record ShowsStart (name : List ℕ) (result : Result (Option ℕ) OutsideFault) (added history : History) : Type 0 where
  pub damage : damage_in added ≡ damaged_name name result
  pub read_last : has_read_last added ≡ is_last_start result
  pub looks : Every IsLookOnly added history

-- the collector has published this number and created no sink
pub record HasPublished (who : Who) (born : ℕ) (history : History) : Type 0 where
  pub born_is : (view who history).born ≡ Some born
  pub made : (view who history).made ≡ 0

-- the told history stays legal, and so it is at Ok. The number of starts is spent only where it is the last one, and
-- its file is never damaged
abbrev pub Published : List (List ℕ) → Who → Result ℕ SinkFault → History → Type 0
Published stamped who (Ok born) history = AtTold stamped who (HasPublished who born) history
Published stamped who (Err (Damaged name at)) history = AtTold stamped who (λ front. ⊥) history
Published stamped who (Err (Spent born)) history =
    AtTold stamped who (λ front. number_in (file (files_after front) (BornFile who.name)) ≡ last_number) history
Published stamped who (Err fault) history = Legal stamped history

-- the sinks of a start that has published this number: none is created yet, and earlier starts may have left some
abbrev pub first_state : Who → ℕ → ℕ → State
first_state who born rotate = record {
  collector = who.name;
  born = born;
  number = 0;
  rotate = rotate;
  current = None;
  abandoned = true;
}
