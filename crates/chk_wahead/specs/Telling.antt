-- What a start does, call by call.
use Rattle.std.specs.Prelude.{◌≡◌, ℕ, true, List, [], ◌∷◌, Option, Some, None, Result, Ok, Err, MatchResult}
use Rattle.chk_site.specs.declared.acts.Who.{Who}
use Rattle.chk_site.specs.declared.acts.Call.TheVariants.{Start, Read, Size}
use Rattle.chk_site.specs.declared.acts.OutsideFault.{OutsideFault}
use Rattle.chk_site.specs.History.{History}
use Rattle.chk_site.specs.Site.{Asked, asked, bytes_given, sized}
use Rattle.chk_site.specs.Runs.{MadeInTurn}
use Rattle.chk_wahead.specs.declared.fault.WaheadFault.{WaheadFault}
use Rattle.chk_wahead.specs.declared.fault.WaheadFault.TheVariants.{Damaged, NoMemory}
use Rattle.chk_wahead.specs.declared.found.Found.{Found}
use Rattle.chk_wahead.specs.declared.found.Plan.{Plan}
use Rattle.chk_wahead.specs.Faults.{wahead_fault, IsDamageOf}
use Rattle.chk_wahead.specs.Scripts.{Did}
use Rattle.chk_wahead.specs.Names.{next_name, buffer_name, mark_name}
use Rattle.chk_wahead.specs.States.{State}
use Rattle.chk_wahead.specs.Starting.{found_of, plan_of, number_in, settling, damaged_file}
pub use Rattle.chk_site.specs.Once.{TakenOnce}

-- the first 9 bytes of a small file are read
abbrev pub Reading : Who → List ℕ → Result (Option (List ℕ)) OutsideFault → Option History → Option History → Type 0
Reading who file result old new = TakenOnce (asked who Read (file ∷ []) 0 9) bytes_given result old new

-- the size of the buffer is asked for
abbrev pub Sizing : Who → Result (Option ℕ) OutsideFault → Option History → Option History → Type 0
Sizing who result old new = TakenOnce (asked who Size (buffer_name who.name ∷ []) 0 0) sized result old new

-- the start of the process
abbrev pub starting : Who → List Asked
starting who = asked who Start [] 0 0 ∷ []

-- the process is started, and then the number, the mark and the buffer's size are looked at, up to a call that ended it
pub data Looks (who : Who) : Result Found OutsideFault → Option History → Option History → Type 0 where
  unstarted : {fault : OutsideFault} {old new : Option History} → MadeInTurn (starting who) (Err fault) old new
      → Looks who (Err fault) old new
  no_number : {fault : OutsideFault} {old mid new : Option History} → MadeInTurn (starting who) (Ok tt) old mid
      → Reading who (next_name who.name) (Err fault) mid new → Looks who (Err fault) old new
  no_mark : {fault : OutsideFault} {next : Option (List ℕ)} {old mid late new : Option History} → MadeInTurn (starting who) (Ok tt) old mid
      → Reading who (next_name who.name) (Ok next) mid late → Reading who (mark_name who.name) (Err fault) late new → Looks who (Err fault) old new
  no_size : {fault : OutsideFault} {next mark : Option (List ℕ)} {old mid late last new : Option History} → MadeInTurn (starting who) (Ok tt) old mid
      → Reading who (next_name who.name) (Ok next) mid late → Reading who (mark_name who.name) (Ok mark) late last → Sizing who (Err fault) last new
      → Looks who (Err fault) old new
  looked : {next mark : Option (List ℕ)} {size : Option ℕ} {found : Found} {old mid late last new : Option History}
      → MadeInTurn (starting who) (Ok tt) old mid → Reading who (next_name who.name) (Ok next) mid late → Reading who (mark_name who.name) (Ok mark) late last
      → Sizing who (Ok size) last new → found ≡ found_of next mark size → Looks who (Ok found) old new

-- the state behind a start
abbrev pub started : Who → ℕ → State
started who number = record { who = who; number = number; held = None; ready = true }

-- the result of a start
abbrev pub start_result : Who → ℕ → Result (Unit {0}) OutsideFault → Result State WaheadFault
start_result who number (Ok value) = Ok (started who number)
start_result who number (Err fault) = Err (wahead_fault fault)

-- A start looks, and then does what is to be made of what it found, or says which file is damaged. It may want memory
-- before its first call, and for the name of a damaged file.
pub data Starts (who : Who) : Result State WaheadFault → Option History → Option History → Type 0 where
  unbegun : {now : Option History} → Starts who (Err NoMemory) now now
  unlooked : {fault : OutsideFault} {old new : Option History} → Looks who (Err fault) old new → Starts who (Err (wahead_fault fault)) old new
  damaged : {found : Found} {name : List ℕ} {old new : Option History} → Looks who (Ok found) old new
      → damaged_file who.name (plan_of found) ≡ Some name → Starts who (Err (Damaged name 0)) old new
  unnamed : {found : Found} {name : List ℕ} {old new : Option History} → Looks who (Ok found) old new
      → damaged_file who.name (plan_of found) ≡ Some name → Starts who (Err NoMemory) old new
  settled : {found : Found} {outside : Result (Unit {0}) OutsideFault} {old mid new : Option History} → Looks who (Ok found) old mid
      → damaged_file who.name (plan_of found) ≡ None → MadeInTurn (settling who (plan_of found)) outside mid new
      → Starts who (start_result who (number_in (plan_of found)) outside) old new

-- the file that is damaged is named, and no call was made, or the calls of the plan were made
abbrev pub SettledBy : Option (List ℕ) → Plan → State → Result (Unit {0}) WaheadFault → State → Option History → Option History → Type 0
SettledBy (Some name) plan s result s' old new = MatchResult result (λ value. ⊥) (IsDamageOf name) × (new ≡ old)
SettledBy None plan s result s' old new = Did (settling s.who plan) s (number_in plan) None result s' old new

-- what is made of a plan
abbrev pub IsSettled : Plan → State → Result (Unit {0}) WaheadFault → State → Option History → Option History → Type 0
IsSettled plan s result s' old new = SettledBy (damaged_file s.who.name plan) plan s result s' old new

-- what became of the start of a run whose buffers these are
pub record Opens (who : Who) (s' : State) (result : Result (Unit {0}) WaheadFault) (old new : Option History) : Type 0 where
  pub fine : result ≡ Ok tt → Starts who (Ok s') old new
  pub bad : (fault : WaheadFault) → result ≡ Err fault → Starts who (Err fault) old new
