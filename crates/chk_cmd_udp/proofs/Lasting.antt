-- The call that failed is the last one.
use Rattle.std.proofs.Common.{ℕ, Bool, false, List, [], ◌∷◌, ◌++◌, Option, Result, Ok, Err}
use Rattle.chk_site.specs.declared.acts.OutsideFault.{OutsideFault}
use Rattle.chk_site.specs.declared.acts.OutsideFault.TheVariants.{Outside as site_failed}
use Rattle.chk_site.specs.declared.acts.Call.TheVariants.{Take}
use Rattle.chk_site.specs.declared.acts.Who.{Who}
use Rattle.chk_site.specs.History.{History}
use Rattle.chk_site.specs.Site.{Adds, asked, taking_given}
use Rattle.chk_site.proofs.Runs.{adds_then, adds_as, adds_none}
use Rattle.chk_site.proofs.LastCalls.{last_of_both, ended_last}
use Rattle.chk_replace.proofs.CallSteps.{script_last}
use Rattle.chk_wahead.specs.declared.fault.WaheadFault.{WaheadFault}
use Rattle.chk_wahead.specs.declared.fault.WaheadFault.TheVariants.{Outside, Damaged, Spent, NoMemory}
use Rattle.chk_wahead.specs.Faults.{FailsLast, wahead_fault, wahead_result}
use Rattle.chk_wahead.specs.States.{State}
use Rattle.chk_wahead.proofs.Fields.{put_last}
use Rattle.chk_wahead.proofs.Joining.{did_last, fails_as}
use Rattle.chk_wahead.proofs.Starts.{start_last}
use Rattle.chk_cmd_output.proofs.Printed.{prints_made}
use Rattle.chk_cmd_udp.specs.declared.tally.Tally.{Tally}
use Rattle.chk_cmd_udp.specs.Takings.{TakesOnce, Further, enough, full, none, one, Gathers, came}
use Rattle.chk_cmd_udp.specs.Turns.{Settles, uncommitted, kept, closed, IsTurn}
use Rattle.chk_cmd_udp.specs.Runs.{AreTurned, over, turn, Finishes, unclosed, told, GoesOn, finished, HasRun, unstarted, started}

late : {T : Type 0} (result : Result T WaheadFault) (b a history : History)
    → FailsLast result b (a ++ history)
    → FailsLast result (b ++ a) history
late (Ok value) b a history last = tt
late {T = T} (Err (Outside call)) b a history last = last_of_both {T = T} (Err (site_failed call)) b
    a history last
late (Err (Damaged name at)) b a history last = tt
late (Err (Spent number)) b a history last = tt
late (Err NoMemory) b a history last = tt

pub last_then : {T : Type 0} (result : Result T WaheadFault) {P : History → History → Type 0}
    {old mid new : Option History}
    → Adds old mid P → Adds mid new (FailsLast result) → Adds old new (FailsLast result)
last_then result p q = adds_then (FailsLast result) p q
    (λ b a history x y. late result a b history y)

-- the same fault of another result
other_last : (T U : Type 0) (fault : WaheadFault) (added history : History)
    → FailsLast {T = T} (Err fault) added history
    → FailsLast {T = U} (Err fault) added history
other_last T U (Outside call) added history last = last
other_last T U (Damaged name at) added history last = tt
other_last T U (Spent number) added history last = tt
other_last T U NoMemory added history last = tt

other_of : (T U : Type 0) (fault : WaheadFault) {old new : Option History}
    → Adds old new (FailsLast {T = T} (Err fault))
    → Adds old new (FailsLast {T = U} (Err fault))
other_of T U fault p = adds_as (FailsLast {T = U} (Err fault)) p
    (λ a h x. other_last T U fault a h x)

untaken_last : {who : Who} {door : List ℕ} {wait : ℕ} (T : Type 0) (fault : OutsideFault)
    {old new : Option History}
    → TakesOnce who door wait (Err fault) old new
    → Adds old new (FailsLast {T = T} (Err (wahead_fault fault)))
untaken_last {who = who} {door = door} {wait = wait} T fault (given, ends, call) =
    adds_as (FailsLast {T = T} (Err (wahead_fault fault))) call
    (λ a h calls. fails_as {T = T} T (Err fault) a h
    (ended_last T {q = asked who Take (door ∷ []) wait 0} (taking_given calls.0) given fault ends
    calls.1))

further_last : {who : Who} {door : List ℕ} {rotate left : ℕ} {s u : State} {t w : Tally}
    {result : Result (Unit {0}) WaheadFault}
    {old new : Option History} → Further who door rotate left s t old result u w new
    → Adds old new (FailsLast result)
further_last enough = adds_none _ (FailsLast {T = Unit {0}} (Ok tt)) (λ h. tt)
further_last (full long) = adds_none _ (FailsLast {T = Unit {0}} (Ok tt)) (λ h. tt)
further_last (none short call) = adds_as (FailsLast {T = Unit {0}} (Ok tt)) call (λ a h x. tt)
further_last {s = s} {result = result} (one {u = u} taking short call put rest) =
    last_then result call (last_then result (put_last s taking.bytes (Ok tt) u _ _ put)
    (further_last rest))
further_last (Further.untaken fault short call) = untaken_last (Unit {0}) fault call
further_last {s = s} (Further.unput {u = u} taking fault short call put) =
    last_then {T = Unit {0}} (Err fault) call (put_last s taking.bytes (Err fault) u _ _ put)

came_last : (result : Result (Unit {0}) WaheadFault) {old new : Option History}
    → Adds old new (FailsLast result)
    → Adds old new (FailsLast (came result))
came_last (Ok value) p = adds_as (FailsLast {T = Bool} (came (Ok value))) p (λ a h x. tt)
came_last (Err fault) p = other_of (Unit {0}) Bool fault p

gathers_last : {who : Who} {door : List ℕ} {rotate further : ℕ} {s u : State} {t w : Tally}
    {result : Result Bool WaheadFault}
    {old new : Option History} → Gathers who door rotate further s t old result u w new
    → Adds old new (FailsLast result)
gathers_last (Gathers.silent call) = adds_as (FailsLast {T = Bool} (Ok false)) call (λ a h x. tt)
gathers_last {s = s} (Gathers.heard {u = u} {result = result} taking call put rest) =
    came_last result (last_then result call (last_then result
    (put_last s taking.bytes (Ok tt) u _ _ put) (further_last rest)))
gathers_last (Gathers.untaken fault call) = untaken_last Bool fault call
gathers_last {s = s} (Gathers.unput {u = u} taking fault call put) =
    other_of (Unit {0}) Bool fault (last_then {T = Unit {0}} (Err fault) call
    (put_last s taking.bytes (Err fault) u _ _ put))

settles_last : {rotate : ℕ} {s u : State} {result : Result (Unit {0}) WaheadFault}
    {old new : Option History}
    → Settles rotate s old result u new → Adds old new (FailsLast result)
settles_last (uncommitted fault did) = did_last did
settles_last (kept did short) = did_last did
settles_last {result = result} (closed did long shut) = last_then result (did_last did)
    (did_last shut)

turn_last : {who : Who} {door : List ℕ} {rotate messages : ℕ} {s u : State} {t w : Tally}
    {result : Result (Unit {0}) WaheadFault}
    {old new : Option History} → IsTurn who door rotate messages s t old result u w new
    → Adds old new (FailsLast result)
turn_last (IsTurn.ungathered fault taken) = other_of (Bool) (Unit {0}) fault
    (gathers_last taken)
turn_last {result = result} (IsTurn.silent taken shut) = last_then result (gathers_last taken)
    (did_last shut)
turn_last {result = result} (IsTurn.heard taken settled) = last_then result (gathers_last taken)
    (settles_last settled)

turns_last : {who : Who} {door : List ℕ} {rotate messages left : ℕ} {s u : State} {t w : Tally}
    {result : Result (Unit {0}) WaheadFault}
    {old new : Option History} → AreTurned who door rotate messages left s t old result u w new
    → Adds old new (FailsLast result)
turns_last over = adds_none _ (FailsLast {T = Unit {0}} (Ok tt)) (λ h. tt)
turns_last {result = result} (turn first rest) = last_then result (turn_last first)
    (turns_last rest)
turns_last (AreTurned.cut fault first) = turn_last first

finish_last : {writer : Who} {s : State} {t : Tally} {result : Result (Unit {0}) WaheadFault}
    {old new : Option History}
    → Finishes writer s t result old new → Adds old new (FailsLast result)
finish_last (unclosed fault did) = did_last did
finish_last (told outside did prints) =
    last_then (wahead_result outside) (did_last did)
    (adds_as (FailsLast (wahead_result outside)) (script_last (prints_made prints))
    (λ a h last. fails_as (Unit {0}) outside a h last))

goes_last : {who writer : Who} {door : List ℕ} {turns rotate messages : ℕ} {s : State}
    {result : Result (Unit {0}) WaheadFault}
    {old new : Option History} → GoesOn who writer door turns rotate messages s result old new
    → Adds old new (FailsLast result)
goes_last (GoesOn.cut fault turned) = turns_last turned
goes_last {result = result} (finished turned ends) = last_then result (turns_last turned)
    (finish_last ends)

pub run_last : {who writer : Who} {door : List ℕ} {turns rotate messages : ℕ}
    {result : Result (Unit {0}) WaheadFault}
    {old new : Option History} → HasRun who writer door turns rotate messages result old new
    → Adds old new (FailsLast result)
run_last {who = who} (unstarted fault starts) = other_of (State) (Unit {0}) fault
    (start_last who (Err fault) starts)
run_last {who = who} {result = result} (started {s = s} starts rest) = last_then result
    (start_last who (Ok s) starts) (goes_last rest)
