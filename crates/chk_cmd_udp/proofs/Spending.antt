-- A number is wanting only where the last one was taken.
use Rattle.std.proofs.Common.{◌≡◌, ℕ, ◌==◌, Bool, true, false, List, [], ◌∷◌, Option, Some, None, Result, Ok, Err, sym, subst, refl}
use Rattle.std.specs.Prelude.{MatchBool}
use Rattle.std.proofs.lemmas.Bool.{eqb-true}
use Rattle.chk_site.specs.declared.acts.OutsideFault.{OutsideFault}
use Rattle.chk_site.specs.declared.acts.OutsideFault.TheVariants.{Outside as site_failed, NoMemory as no_memory}
use Rattle.chk_site.specs.declared.acts.Who.{Who}
use Rattle.chk_site.specs.History.{History}
use Rattle.chk_site.specs.Site.{Asked}
use Rattle.chk_wahead.specs.declared.fault.WaheadFault.{WaheadFault}
use Rattle.chk_wahead.specs.declared.fault.WaheadFault.TheVariants.{Outside, Damaged, Spent, NoMemory}
use Rattle.chk_wahead.specs.Faults.{wahead_fault, wahead_result}
use Rattle.chk_wahead.specs.Scripts.{Did, IsSpent, PutsIn, Puts, first_calls}
use Rattle.chk_wahead.specs.States.{State, Held, last_number}
use Rattle.chk_wahead.specs.Starting.{number_in, plan_of}
use Rattle.chk_wahead.specs.Telling.{Starts, unbegun, unlooked, damaged, unnamed, settled, start_result}
use Rattle.chk_cmd_udp.specs.declared.tally.Tally.{Tally}
use Rattle.chk_cmd_udp.specs.Takings.{Further, enough, full, none, one, Gathers, came}
use Rattle.chk_cmd_udp.specs.Turns.{Settles, uncommitted, kept, closed, IsTurn}
use Rattle.chk_cmd_udp.specs.Runs.{AreTurned, over, turn, unclosed, told, GoesOn, finished, HasRun, unstarted, started, IsLastNumber}

outside_spent : (T : Type 0) (fault : OutsideFault)
    → IsLastNumber {T = T} (Err (wahead_fault fault))
outside_spent T (site_failed call) = tt
outside_spent T no_memory = tt

result_spent : (outside : Result (Unit {0}) OutsideFault) → IsLastNumber (wahead_result outside)
result_spent (Ok value) = tt
result_spent (Err fault) = outside_spent (Unit {0}) fault

other_spent : (T U : Type 0) (fault : WaheadFault) → IsLastNumber {T = T} (Err fault)
    → IsLastNumber {T = U} (Err fault)
other_spent T U (Outside call) is = tt
other_spent T U (Damaged name at) is = tt
other_spent T U (Spent number) is = is
other_spent T U NoMemory is = tt

did_spent : {calls : List Asked} {s : State} {number : ℕ} {held : Option Held}
    {result : Result (Unit {0}) WaheadFault} {u : State}
    {old new : Option History} → Did calls s number held result u old new → IsLastNumber result
did_spent d = subst (λ r. IsLastNumber {T = Unit {0}} r) (sym d.result_is) (result_spent d.outside)

first_spent : (b : Bool) (s : State) (bytes : List ℕ) (number : ℕ) (held : Option Held)
    (result : Result (Unit {0}) WaheadFault) (u : State)
    (old new : Option History) → (s.number == last_number) ≡ b
    → MatchBool b (IsSpent s result u old new) (Did (first_calls s.who number bytes) s number held
    result u old new)
    → IsLastNumber result
first_spent true s bytes number held result u old new e spent =
    subst (λ r. IsLastNumber {T = Unit {0}} r) (sym spent.result_is)
    (eqb-true s.number last_number e)
first_spent false s bytes number held result u old new e did = did_spent did

in_spent : (at : Option Held) (s : State) (bytes : List ℕ) (result : Result (Unit {0}) WaheadFault)
    (u : State) (old new : Option History)
    → PutsIn at s bytes result u old new → IsLastNumber result
in_spent None s bytes result u old new did = first_spent (s.number == last_number) s bytes _ _
    result u old new refl did
in_spent (Some h) s bytes result u old new did = did_spent did

put_spent : (s : State) (bytes : List ℕ) (result : Result (Unit {0}) WaheadFault) (u : State)
    (old new : Option History) → Puts s bytes result u old new → IsLastNumber result
put_spent s [] result u old new did = subst (λ r. IsLastNumber {T = Unit {0}} r) (sym did.result_is) tt
put_spent s (b ∷ bytes) result u old new did = in_spent s.held s (b ∷ bytes) result
    u old new did

further_spent : {who : Who} {door : List ℕ} {rotate left : ℕ} {s u : State} {t w : Tally}
    {result : Result (Unit {0}) WaheadFault}
    {old new : Option History} → Further who door rotate left s t old result u w new
    → IsLastNumber result
further_spent enough = tt
further_spent (full long) = tt
further_spent (none short call) = tt
further_spent (one taking short call put rest) = further_spent rest
further_spent (Further.untaken fault short call) = outside_spent (Unit {0}) fault
further_spent {s = s} (Further.unput {u = u} taking fault short call put) = put_spent s taking.bytes
    (Err fault) u _ _ put

came_spent : (result : Result (Unit {0}) WaheadFault) → IsLastNumber result
    → IsLastNumber (came result)
came_spent (Ok value) is = tt
came_spent (Err fault) is = other_spent (Unit {0}) Bool fault is

gathers_spent : {who : Who} {door : List ℕ} {rotate further : ℕ} {s u : State} {t w : Tally}
    {result : Result Bool WaheadFault}
    {old new : Option History} → Gathers who door rotate further s t old result u w new
    → IsLastNumber result
gathers_spent (Gathers.silent call) = tt
gathers_spent (Gathers.heard {result = result} taking call put rest) = came_spent result
    (further_spent rest)
gathers_spent (Gathers.untaken fault call) = outside_spent Bool fault
gathers_spent {s = s} (Gathers.unput {u = u} taking fault call put) =
    other_spent (Unit {0}) Bool fault (put_spent s taking.bytes (Err fault) u _ _ put)

settles_spent : {rotate : ℕ} {s u : State} {result : Result (Unit {0}) WaheadFault}
    {old new : Option History}
    → Settles rotate s old result u new → IsLastNumber result
settles_spent (uncommitted fault did) = did_spent did
settles_spent (kept did short) = tt
settles_spent (closed did long shut) = did_spent shut

turn_spent : {who : Who} {door : List ℕ} {rotate messages : ℕ} {s u : State} {t w : Tally}
    {result : Result (Unit {0}) WaheadFault}
    {old new : Option History} → IsTurn who door rotate messages s t old result u w new
    → IsLastNumber result
turn_spent (IsTurn.ungathered fault taken) = other_spent (Bool) (Unit {0}) fault
    (gathers_spent taken)
turn_spent (IsTurn.silent taken shut) = did_spent shut
turn_spent (IsTurn.heard taken ending) = settles_spent ending

turns_spent : {who : Who} {door : List ℕ} {rotate messages left : ℕ} {s u : State} {t w : Tally}
    {result : Result (Unit {0}) WaheadFault}
    {old new : Option History} → AreTurned who door rotate messages left s t old result u w new
    → IsLastNumber result
turns_spent over = tt
turns_spent (turn first rest) = turns_spent rest
turns_spent (AreTurned.cut fault first) = turn_spent first

goes_spent : {who writer : Who} {door : List ℕ} {turns rotate messages : ℕ} {s : State}
    {result : Result (Unit {0}) WaheadFault}
    {old new : Option History} → GoesOn who writer door turns rotate messages s result old new
    → IsLastNumber result
goes_spent (GoesOn.cut fault turned) = turns_spent turned
goes_spent (finished turned (unclosed fault did)) = did_spent did
goes_spent (finished turned (told outside did prints)) = result_spent outside

start_spent : (who : Who) (number : ℕ) (outside : Result (Unit {0}) OutsideFault)
    → IsLastNumber (start_result who number outside)
start_spent who number (Ok value) = tt
start_spent who number (Err fault) = outside_spent State fault

starts_spent : {who : Who} {result : Result State WaheadFault} {old new : Option History}
    → Starts who result old new → IsLastNumber result
starts_spent unbegun = tt
starts_spent (unlooked {fault = fault} looks) = outside_spent State fault
starts_spent (damaged looks e) = tt
starts_spent (unnamed looks e) = tt
starts_spent {who = who} (settled {found = found} {outside = outside} looks e made) = start_spent
    who (number_in (plan_of found)) outside

pub run_spent : {who writer : Who} {door : List ℕ} {turns rotate messages : ℕ}
    {result : Result (Unit {0}) WaheadFault}
    {old new : Option History} → HasRun who writer door turns rotate messages result old new
    → IsLastNumber result
run_spent (unstarted fault starts) = other_spent (State) (Unit {0}) fault (starts_spent starts)
run_spent (started starts rest) = goes_spent rest
