-- What a start comes to, by its parts, and which call of it comes last.
use Rattle.std.proofs.Common.{◌≡◌, ℕ, ◌≤◌, ◌<◌, ◌==◌, Bool, true, false, List, ◌++◌, length, Option, Some, None, Result, Ok, Err, ap, sym, subst, refl, ◌∙◌, arith, if◌then◌else◌}
use Rattle.std.specs.Prelude.{nat_lt}
use Rattle.std.proofs.lemmas.Bool.{and_parts, ltb-true}
use Rattle.chk_bytes.specs.Numbers.{spelled, limit}
use Rattle.chk_site.specs.declared.acts.Who.{Who}
use Rattle.chk_site.specs.declared.acts.OutsideFault.{OutsideFault}
use Rattle.chk_site.specs.declared.acts.OutsideFault.TheVariants.{Outside as site_failed, NoMemory as no_memory}
use Rattle.chk_site.specs.declared.acts.ActAnswer.{ActAnswer}
use Rattle.chk_site.specs.History.{History}
use Rattle.chk_site.specs.Site.{Adds, Asked, LastFailed}
use Rattle.chk_site.specs.Runs.{MadeInTurn}
use Rattle.chk_site.proofs.Runs.{adds_then, adds_as, adds_none}
use Rattle.chk_replace.proofs.CallSteps.{script_last}
use Rattle.chk_site.proofs.LastCalls.{ended_last as ends_last}
use Rattle.chk_site.proofs.LastCalls.{last_of_both as last_then}
use Rattle.chk_wahead.specs.declared.fault.WaheadFault.{WaheadFault}
use Rattle.chk_wahead.specs.declared.fault.WaheadFault.TheVariants.{Outside, Damaged, Spent, NoMemory}
use Rattle.chk_wahead.specs.declared.found.Found.{Found}
use Rattle.chk_wahead.specs.declared.found.Plan.{Plan}
use Rattle.chk_wahead.specs.declared.found.Plan.TheVariants.{DamagedNext, DamagedMark, Close, DropMark}
use Rattle.chk_wahead.specs.declared.found.Small.{Small}
use Rattle.chk_wahead.specs.declared.found.Small.TheVariants.{Absent, Number, Damaged as Damaged_small}
use Rattle.chk_wahead.specs.Faults.{FailsLast, wahead_fault, wahead_result, IsDamageOf}
use Rattle.chk_wahead.specs.States.{State, left, last_number}
use Rattle.chk_wahead.specs.Starting.{is_number, small_of, found_of, left_buffer, left_mark, plan_of, number_in, settling, damaged_file}
use Rattle.chk_wahead.specs.Telling.{TakenOnce, Looks, unstarted, no_number, no_mark, no_size, looked, Starts, unbegun, unlooked, damaged, unnamed, settled, started, start_result, SettledBy, IsSettled, Opens}
use Rattle.chk_wahead.proofs.Joining.{fails_as}

damaged_by : (who : Who) (found : Found) (name : List ℕ) (fault : WaheadFault) {old new : Option History} → Looks who (Ok found) old new
    → damaged_file who.name (plan_of found) ≡ Some name → IsDamageOf name fault → Starts who (Err fault) old new
damaged_by who found name (Damaged w at) {old = old} {new = new} looks is damage =
    subst (λ (f : WaheadFault). Starts who (Err f) old new) (λ i. Damaged (sym damage.0 i) (sym damage.1 i)) (damaged looks is)
damaged_by who found name NoMemory looks is damage = unnamed looks is
damaged_by who found name (Outside call) looks is damage = absurd damage
damaged_by who found name (Spent number) looks is damage = absurd damage

done_by : (who : Who) (found : Found) (s' : State) (outside : Result (Unit {0}) OutsideFault) (result : Result (Unit {0}) WaheadFault)
    {old mid new : Option History} → Looks who (Ok found) old mid
    → damaged_file who.name (plan_of found) ≡ None → MadeInTurn (settling who (plan_of found)) outside mid new
    → result ≡ wahead_result outside → s' ≡ left (started who 0) (number_in (plan_of found)) None outside
    → (result ≡ Ok tt → Starts who (Ok s') old new) × ((fault : WaheadFault) → result ≡ Err fault → Starts who (Err fault) old new)
done_by who found s' (Ok tt) result {old = old} {new = new} looks none made is state = (
  λ fine. subst (λ (s : State). Starts who (Ok s) old new) (sym state) (settled looks none made),
  λ fault bad. absurd (let x : Ok tt ≡ Err fault = sym is ∙ bad in cc),
)
done_by who found s' (Err f) result {old = old} {new = new} looks none made is state = (
  λ fine. absurd (let x : Err (wahead_fault f) ≡ Ok tt = sym is ∙ fine in cc),
  λ fault bad.
      let same : wahead_fault f ≡ fault = (let x : Err (wahead_fault f) ≡ Err fault = sym is ∙ bad in cc) in
      subst (λ (g : WaheadFault). Starts who (Err g) old new) same (settled looks none made),
)

settled_as : (who : Who) (found : Found) (s' : State) (result : Result (Unit {0}) WaheadFault) {old mid new : Option History}
    → Looks who (Ok found) old mid → (file : Option (List ℕ)) → damaged_file who.name (plan_of found) ≡ file
    → SettledBy file (plan_of found) (started who 0) result s' mid new → Opens who s' result old new
settled_as who found s' result looks None is did =
    let d = done_by who found s' did.outside result looks is did.made did.result_is did.state_is in
    record { fine = d.0; bad = d.1 }
settled_as who found s' (Ok value) looks (Some name) is did = absurd did.0
settled_as who found s' (Err f) {old = old} {mid = mid} {new = new} looks (Some name) is did =
    record {
      fine = λ e. absurd (cc);
      bad =
          λ fault e.
          let same : f ≡ fault = cc in
          subst (λ (h : Option History). Starts who (Err fault) old h) (sym did.1)
          (damaged_by who found name fault looks is (subst (IsDamageOf name) same did.0));
    }

-- a start, by what was found and what became of it
pub start_ends : (who : Who) (found : Found) (s' : State) (result : Result (Unit {0}) WaheadFault) {old mid new : Option History}
    → Looks who (Ok found) old mid → IsSettled (plan_of found) (started who 0) result s' mid new → Opens who s' result old new
start_ends who found s' result looks did = settled_as who found s' result looks (damaged_file who.name (plan_of found)) refl did

-- ---- the last call

taken_last : {V : Type 0} (T : Type 0) {q : Asked} {how : V → ActAnswer} (fault : OutsideFault) {old new : Option History}
    → TakenOnce q how (Err fault) old new → Adds old new (LastFailed {T = T} (Err fault))
taken_last T {how = how} fault t = adds_as (LastFailed {T = T} (Err fault)) t.told (λ a h calls. ends_last T how t.given fault t.came calls)

later : (fault : OutsideFault) {P : History → History → Type 0} {old mid new : Option History} → Adds old mid P
    → Adds mid new (LastFailed {T = Found} (Err fault)) → Adds old new (LastFailed {T = Found} (Err fault))
later fault first last = adds_then (LastFailed {T = Found} (Err fault)) first last (λ a b h p q. last_then {T = Found} (Err fault) b a h q)

same_last : (T U : Type 0) (fault : OutsideFault) {old new : Option History} → Adds old new (LastFailed {T = T} (Err fault))
    → Adds old new (LastFailed {T = U} (Err fault))
same_last T U (site_failed call) last = adds_as (LastFailed {T = U} (Err (site_failed call))) last (λ a h l. l)
same_last T U no_memory last = adds_as (LastFailed {T = U} (Err no_memory)) last (λ a h l. tt)

look_last : (who : Who) (result : Result Found OutsideFault) (fault : OutsideFault) {old new : Option History} → result ≡ Err fault
    → Looks who result old new → Adds old new (LastFailed {T = Found} (Err fault))
look_last who (Err f) fault is (unstarted script) =
    let same : f ≡ fault = cc in
    rw (sym same) (same_last (Unit {0}) Found f (script_last script))
look_last who (Err f) fault is (no_number script one) =
    let same : f ≡ fault = cc in
    rw (sym same) (later f (script_last script) (taken_last Found f one))
look_last who (Err f) fault is (no_mark script one two) =
    let same : f ≡ fault = cc in
    rw (sym same) (later f (script_last script) (later f one.told (taken_last Found f two)))
look_last who (Err f) fault is (no_size script one two three) =
    let same : f ≡ fault = cc in
    rw (sym same) (later f (script_last script) (later f one.told (later f two.told (taken_last Found f three))))
look_last who result fault is (looked script one two three e) = absurd (cc)

abbrev Anything : History → History → Type 0
Anything added history = Unit {0}

script_adds : {qs : List Asked} {result : Result (Unit {0}) OutsideFault} {old new : Option History} → MadeInTurn qs result old new
    → Adds old new Anything
script_adds script = adds_as Anything (script_last script) (λ a h l. tt)

also : {P : History → History → Type 0} {old mid new : Option History} → Adds old mid P → Adds mid new Anything → Adds old new Anything
also first last = adds_then Anything first last (λ a b h p q. tt)

look_adds : (who : Who) (result : Result Found OutsideFault) {old new : Option History} → Looks who result old new → Adds old new Anything
look_adds who result (unstarted script) = script_adds script
look_adds who result (no_number script one) = also (script_adds script) (adds_as Anything one.told (λ a h l. tt))
look_adds who result (no_mark script one two) = also (script_adds script) (also one.told (adds_as Anything two.told (λ a h l. tt)))
look_adds who result (no_size script one two three) =
    also (script_adds script) (also one.told (also two.told (adds_as Anything three.told (λ a h l. tt))))
look_adds who result (looked script one two three e) =
    also (script_adds script) (also one.told (also two.told (adds_as Anything three.told (λ a h l. tt))))

abbrev failed_as : OutsideFault → Result State OutsideFault
failed_as fault = Err fault

end_last : (who : Who) (number : ℕ) (outside : Result (Unit {0}) OutsideFault) {old mid new : Option History} → Adds old mid Anything
    → Adds mid new (LastFailed outside) → Adds old new (FailsLast (start_result who number outside))
end_last who number (Ok value) first last = adds_then (FailsLast (start_result who number (Ok value))) first last (λ a b h p q. tt)
end_last who number (Err fault) first last =
    adds_then (FailsLast {T = State} (Err (wahead_fault fault))) first last
    (λ a b h p q. fails_as State (failed_as fault) (b ++ a) h (last_then {T = State} (Err fault) b a h (other fault b (a ++ h) q)))
  where
    other : (fault : OutsideFault) (b h : History) → LastFailed {T = Unit {0}} (Err fault) b h → LastFailed {T = State} (Err fault) b h
    other (site_failed call) b h q = q
    other no_memory b h q = tt

-- the last call of a start
pub start_last : (who : Who) (result : Result State WaheadFault) {old new : Option History} → Starts who result old new
    → Adds old new (FailsLast result)
start_last who result unbegun = adds_none _ (FailsLast {T = State} (Err NoMemory)) (λ h. tt)
start_last who result (unlooked {fault = fault} looks) =
    adds_as (FailsLast {T = State} (Err (wahead_fault fault))) (same_last Found State fault (look_last who (Err fault) fault refl looks))
    (λ a h l. fails_as State (failed_as fault) a h l)
start_last who result (damaged {found = found} {name = name} looks is) =
    adds_as (FailsLast {T = State} (Err (Damaged name 0))) (look_adds who (Ok found) looks) (λ a h l. tt)
start_last who result (unnamed {found = found} looks is) =
    adds_as (FailsLast {T = State} (Err NoMemory)) (look_adds who (Ok found) looks) (λ a h l. tt)
start_last who result (settled {found = found} {outside = outside} looks none made) =
    end_last who (number_in (plan_of found)) outside (look_adds who (Ok found) looks) (script_last made)

-- ---- the number that was found is below 2^63

abbrev IsLow : Small → Type 0
IsLow (Number n) = n ≤ last_number
IsLow small = Unit {0}

small_low : (read : Option (List ℕ)) → IsLow (small_of read)
small_low None = tt
small_low (Some bytes) = by (is_number bytes) refl
  where
    by : (b : Bool) → is_number bytes ≡ b → IsLow (if b then Number (spelled bytes) else Damaged_small)
    by true is =
        let low : spelled bytes < limit = ltb-true (spelled bytes) limit (and_parts (length bytes == 8) (nat_lt (spelled bytes) limit) is).1 in
        omega (arith, low)
    by false is = tt

abbrev IsLowPlan : Plan → Type 0
IsLowPlan plan = number_in plan ≤ last_number

if_low : (b : Bool) (p q : Plan) → IsLowPlan p → IsLowPlan q → IsLowPlan (if b then p else q)
if_low true p q one two = one
if_low false p q one two = two

zero_low : 0 ≤ last_number
zero_low = omega arith

left_buffer_low : (number size : ℕ) (mark : Small) → number ≤ last_number → IsLowPlan (left_buffer number mark size)
left_buffer_low number size Absent low = low
left_buffer_low number size Damaged_small low = zero_low
left_buffer_low number size (Number mark) low =
    if_low (mark == 0) DamagedMark (if nat_lt size mark then DamagedMark else Close number mark) zero_low
    (if_low (nat_lt size mark) DamagedMark (Close number mark) zero_low low)

left_mark_low : (number : ℕ) (mark : Small) → number ≤ last_number → IsLowPlan (left_mark number mark)
left_mark_low number Absent low = low
left_mark_low number Damaged_small low = zero_low
left_mark_low number (Number mark) low = if_low (mark == 0) DamagedMark (DropMark number) zero_low low

plan_low : (next mark : Small) (size : Option ℕ) → IsLow next → IsLowPlan (plan_of (record { next = next; mark = mark; size = size }))
plan_low Absent mark None low = left_mark_low 0 mark zero_low
plan_low Damaged_small mark None low = zero_low
plan_low (Number number) mark None low = left_mark_low number mark low
plan_low Absent mark (Some size) low = zero_low
plan_low Damaged_small mark (Some size) low = zero_low
plan_low (Number number) mark (Some size) low =
    if_low (number == 0) DamagedNext (left_buffer number mark size) zero_low (left_buffer_low number size mark low)

looked_low : (who : Who) (result : Result Found OutsideFault) (found : Found) {old new : Option History} → result ≡ Ok found
    → Looks who result old new → number_in (plan_of found) ≤ last_number
looked_low who result found is (unstarted script) = absurd (cc)
looked_low who result found is (no_number script one) = absurd (cc)
looked_low who result found is (no_mark script one two) = absurd (cc)
looked_low who result found is (no_size script one two three) = absurd (cc)
looked_low who (Ok f) found is (looked {next = next} {mark = mark} {size = size} script one two three e) =
    let same : f ≡ found = cc in
    subst (λ (g : Found). number_in (plan_of g) ≤ last_number) (sym e ∙ same) (plan_low (small_of next) (small_of mark) size (small_low next))

-- the number that a start goes on from is below 2^63
pub found_low : (who : Who) (found : Found) {old new : Option History} → Looks who (Ok found) old new → number_in (plan_of found) ≤ last_number
found_low who found looks = looked_low who (Ok found) found refl looks

-- ---- the parts of a start

pub open_failed : (who mine : Who) (s' : State) (fault : OutsideFault) {result : Result (Unit {0}) WaheadFault} {old new : Option History}
    → who ≡ mine → Looks who (Err fault) old new → result ≡ Err (wahead_fault fault) → Opens mine s' result old new
open_failed who mine s' fault {result = result} {old = old} {new = new} w looks is =
    let mine_looks : Looks mine (Err fault) old new = subst (λ (k : Who). Looks k (Err fault) old new) w looks in
    record {
      fine = λ e. absurd (let x : Err (wahead_fault fault) ≡ Ok tt = sym is ∙ e in cc);
      bad =
          λ f e.
          let same : wahead_fault fault ≡ f = (let x : Err (wahead_fault fault) ≡ Err f = sym is ∙ e in cc) in
          subst (λ (g : WaheadFault). Starts mine (Err g) old new) same (unlooked mine_looks);
    }

pub open_done : (who mine : Who) (s s' : State) (found : Found) (plan : Plan) {result : Result (Unit {0}) WaheadFault}
    {old mid new : Option History} → who ≡ mine → s ≡ started mine 0 → Looks who (Ok found) old mid → plan ≡ plan_of found
    → IsSettled plan s result s' mid new → Opens mine s' result old new
open_done who mine s s' found plan {result = result} {old = old} {mid = mid} {new = new} w first looks p did =
    start_ends mine found s' result (subst (λ (k : Who). Looks k (Ok found) old mid) w looks)
    (subst (λ (t : State). IsSettled (plan_of found) t result s' mid new) first (subst (λ (q : Plan). IsSettled q s result s' mid new) p did))

pub opens_as : (who : Who) (w s' : State) {result : Result (Unit {0}) WaheadFault} {old new : Option History} → w ≡ started who 0
    → Opens w.who s' result old new → Opens who s' result old new
opens_as who w s' {result = result} {old = old} {new = new} e opens =
    subst (λ (k : Who). Opens k s' result old new) (ap (λ (v : State). v.who) e) opens

-- ---- the parts of a look

pub taken_at : {V : Type 0} {q r : Asked} {how : V → ActAnswer} {result : Result (Option V) OutsideFault} {old new : Option History} → q ≡ r
    → TakenOnce q how result old new → TakenOnce r how result old new
taken_at {how = how} {result = result} {old = old} {new = new} same t = subst (λ (a : Asked). TakenOnce a how result old new) same t

pub found_by : (next mark : Option (List ℕ)) (size : Option ℕ) {a b : Small} → a ≡ small_of next → b ≡ small_of mark
    → record { next = a; mark = b; size = size } ≡ found_of next mark size
found_by next mark size x y = λ i. record { next = x i; mark = y i; size = size }
