-- Whether collectors answer at their addresses.
use Rattle.std.specs.Prelude.{◌≡◌, ℕ, ◌||◌, Bool, true, false, List, [], ◌∷◌, bytes_eq, codes}
use Rattle.std.specs.Prelude.{Option, Result, Ok, Err}
use Rattle.chk_site.specs.declared.acts.Call.TheVariants.{Send}
use Rattle.chk_site.specs.declared.acts.CallFault.{CallFault}
use Rattle.chk_site.specs.declared.acts.CallFault.TheVariants.{Failed}
use Rattle.chk_site.specs.declared.acts.OutsideFault.{OutsideFault}
use Rattle.chk_site.specs.declared.acts.OutsideFault.TheVariants.{NoMemory as no_memory}
use Rattle.chk_site.specs.Acts.{Deed, Says, Sends}
use Rattle.chk_site.specs.History.{Every, History}
use Rattle.chk_site.specs.Site.{Adds, CallsSome, answered, asked, sized}
use Rattle.chk_cmd_output.specs.Printing.{PrintsInTurn}
use Rattle.chk_world.specs.JobSteps.{IsOf}
use Rattle.chk_world.specs.Sight.{job}
use Rattle.chk_ctl_check.specs.Lines.{line_of}

-- the call: a message without a byte is sent
pub data SendsNothing : Deed → Type 0 where
  sends : (n : ℕ) (address : List ℕ) → SendsNothing (Sends n address [])

-- the same, or a print
pub data SendsOrSays : Deed → Type 0 where
  asks : (call : Deed) → SendsNothing call → SendsOrSays call
  says : (text : List ℕ) → SendsOrSays (Says text)

-- the address of a mailbox inside a process
abbrev pub is_self : List ℕ → Bool
is_self address = bytes_eq address (codes "self")

-- nobody took the message
abbrev pub is_refused : Result ℕ CallFault → Bool
is_refused (Err Failed) = true
is_refused given = false

-- whether nobody answers there: nobody does inside the process, and else a message without a byte
-- is sent
pub data AddressAsked (address : List ℕ) : Bool → Option History → Option History → Type 0 where
  inside : {now : Option History} → is_self address ≡ true → AddressAsked address true now now
  asked_it : {old new : Option History} (given : Result ℕ CallFault) → is_self address ≡ false
      → Adds old new (CallsSome (λ n. asked job Send (address ∷ [] ∷ []) n 0)
      (λ n. answered sized given))
      → AddressAsked address (is_refused given) old new

-- the line of an address at which nobody answers
abbrev pub silent_line : List ℕ → List ℕ
silent_line address = line_of (codes "collector" ∷ address ∷ codes "NoAnswer" ∷ [])

-- a line was printed
abbrev pub silent_by : Result (Unit {0}) OutsideFault → Result Bool OutsideFault
silent_by (Ok value) = Ok true
silent_by (Err fault) = Err fault

-- The address is asked, and the line is printed exactly where nobody answers there; or there was
-- no memory.
pub data CollectorChecked (address : List ℕ) : Result Bool OutsideFault → Option History
    → Option History → Type 0 where
  unasked : {old new : Option History} → Adds old new (Every (IsOf SendsNothing))
      → CollectorChecked address (Err no_memory) old new
  answers : {old new : Option History} → AddressAsked address false old new
      → CollectorChecked address (Ok false) old new
  is_silent : {old mid new : Option History} (given : Result (Unit {0}) OutsideFault)
      → AddressAsked address true old mid
      → PrintsInTurn job (silent_line address ∷ []) given mid new
      → CollectorChecked address (silent_by given) old new

-- one of them, or one of those behind it, is silent
abbrev pub or_silent : Bool → Result Bool OutsideFault → Result Bool OutsideFault
or_silent found (Ok more) = Ok (found || more)
or_silent found (Err fault) = Err fault

-- the addresses in turn, up to a fault; whether one of them was silent
pub data CollectorsChecked : List (List ℕ) → Result Bool OutsideFault → Option History
    → Option History → Type 0 where
  none_left : {now : Option History} → CollectorsChecked [] (Ok false) now now
  asked_on : {address : List ℕ} {addresses : List (List ℕ)} {found : Bool}
      {result : Result Bool OutsideFault} {old mid new : Option History}
      → CollectorChecked address (Ok found) old mid
      → CollectorsChecked addresses result mid new
      → CollectorsChecked (address ∷ addresses) (or_silent found result) old new
  ended_so : {address : List ℕ} {addresses : List (List ℕ)} {fault : OutsideFault}
      {old new : Option History} → CollectorChecked address (Err fault) old new
      → CollectorsChecked (address ∷ addresses) (Err fault) old new
