-- What a site in memory tells of itself, and how a script goes.
use Rattle.std.specs.Prelude.{◌≡◌, ℕ, nat_le, ◌==◌, Bool, false, true, List, [], ◌∷◌, MatchBool, Option, Some, None, Result, Ok, Err, if◌then◌else◌}
use Rattle.std.specs.List.{list_any}
use Rattle.chk_site.specs.declared.acts.Act.{Act}
use Rattle.chk_site.specs.declared.acts.CallFault.{CallFault}
use Rattle.chk_site.specs.declared.acts.CallFault.TheVariants.{Failed, NoMemory}
use Rattle.chk_site.specs.declared.acts.ActAnswer.TheVariants.{Refused, Stopped}
use Rattle.chk_site.specs.declared.lists.Left.{Left}
use Rattle.chk_site.specs.declared.scripts.Other.{Other}
use Rattle.chk_site.specs.declared.scripts.Script.{Script}
use Rattle.chk_site.specs.declared.scripts.StopAt.{StopAt}
use Rattle.chk_site.specs.Acts.{deed}
use Rattle.chk_site.specs.History.{files_after, is_stopped}
use Rattle.chk_site_mem_store.specs.Repeating.{capped_sum}
use Rattle.chk_site_mem_store.specs.State.{State, after, anew, at_first}
use Rattle.chk_site_mem_store.specs.Told.{fitted, is_allowed, kept_as, told_of, with_answer}
use Rattle.chk_site_mem_calls.specs.Plans.{LosesNothing}
use Rattle.chk_site_mem.specs.declared.fate.Fate.{Fate}
use Rattle.chk_site_mem.specs.declared.fate.Fate.TheVariants.{Goes, Fails, Stops}

-- what is kept; the script, with those acts of others that are still to happen, in order; how many calls were made since
-- it was given; and how often a call has failed
pub record Memory : Type 0 where
  pub state : State
  pub others : List Other
  pub failing : List ℕ
  pub stop : Option StopAt
  pub calls : ℕ
  pub faults : ℕ

-- a site that goes by this script from here on
abbrev pub scripted : Script → State → ℕ → Memory
scripted script s faults =
    record { state = s; others = script.others.items; failing = script.failing.items; stop = script.stop; calls = 0; faults = faults }

-- no act yet, and this script
abbrev pub begun : Script → Memory
begun script = scripted script (at_first script.again.items) 0

-- started anew with this script: no act so far is own, and the count of faults goes on
abbrev pub restarted : Script → Memory → Memory
restarted script m = scripted script (anew script.again.items m.state) m.faults

-- no act yet, and others act so; no call fails, nothing stops and no taking is repeated
abbrev pub begun_clean : List Other → Memory
begun_clean others = record { state = at_first []; others = others; failing = []; stop = None; calls = 0; faults = 0 }

-- after an act of another, where the file model allows it
abbrev pub with_theirs : Act → State → State
with_theirs act s =
    if is_allowed (deed act) act.answer then after (kept_as false (fitted (files_after (told_of s.kept)) act)) s else s

-- the first act is due before the call of this number
abbrev pub first_due : ℕ → List Other → Option Other
first_due n [] = None
first_due n (other ∷ others) = if nat_le other.before n then Some other else None

-- those that are left when the first is due and happens
abbrev pub without_due : ℕ → List Other → List Other
without_due n [] = []
without_due n (other ∷ others) = if nat_le other.before n then others else other ∷ others

-- after the acts that are due before the call of this number, up to the first that isn't
abbrev pub happened : ℕ → List Other → State → State
happened n [] s = s
happened n (other ∷ others) s = if nat_le other.before n then happened n others (with_theirs other.act s) else s

-- those that are still to happen then
abbrev pub later : ℕ → List Other → List Other
later n [] = []
later n (other ∷ others) = if nat_le other.before n then later n others else other ∷ others

-- what the stop leaves, where it is at the call of this number
abbrev pub stops_at : ℕ → Option StopAt → Option (List Left)
stops_at n None = None
stops_at n (Some stop) = if stop.at == n then Some stop.left else None

-- the stop that is still to come after the call of this number
abbrev pub stop_after : ℕ → Option StopAt → Option StopAt
stop_after n None = None
stop_after n (Some stop) = if stop.at == n then None else Some stop

-- a stop goes before a failure
abbrev pub fate_by : Option (List Left) → Bool → Fate
fate_by (Some left) fails = Stops left
fate_by None fails = if fails then Fails else Goes

-- how the call of this number comes out by the script
abbrev pub fate_at : ℕ → Memory → Fate
fate_at n m = fate_by (stops_at n m.stop) (list_any (λ k. k == n) m.failing)

-- the stop is used up where it is at the present call
abbrev pub without_stop : Memory → Memory
without_stop m =
    record { state = m.state; others = m.others; failing = m.failing; stop = stop_after m.calls m.stop; calls = m.calls; faults = m.faults }

-- the number of the next call
abbrev pub next_call : Memory → ℕ
next_call m = capped_sum m.calls 1

-- how the next call comes out
abbrev pub fate_of : Memory → Fate
fate_of m = fate_at (next_call m) m

-- before the act of the next call: it is counted, and the others that are due have acted
abbrev pub ready : Memory → Memory
ready m =
    record {
      state = happened (next_call m) m.others m.state;
      others = later (next_call m) m.others;
      failing = m.failing;
      stop = stop_after (next_call m) m.stop;
      calls = next_call m;
      faults = m.faults;
    }

-- the act as the script has it come out
abbrev pub fated : Fate → Act → Act
fated Goes act = act
fated Fails act = with_answer act (Refused Failed)
fated (Stops left) act = with_answer act (Stopped left)

-- the count of faults after a call of this fate
abbrev pub faults_by : Fate → ℕ → ℕ
faults_by Goes faults = faults
faults_by fate faults = capped_sum faults 1

-- after one more fault, and nothing else
abbrev pub faulted : Memory → Memory
faulted m =
    record { state = m.state; others = m.others; failing = m.failing; stop = m.stop; calls = m.calls; faults = capped_sum m.faults 1 }

-- after the own act, which comes out so
abbrev pub made : Fate → Act → Memory → Memory
made fate act m =
    record {
      state = after (kept_as true (fitted (files_after (told_of m.state.kept)) (fated fate act))) m.state;
      others = m.others;
      failing = m.failing;
      stop = m.stop;
      calls = m.calls;
      faults = faults_by fate m.faults;
    }

-- a call fails just where the script has it fail or stop
abbrev pub IsFated : {T : Type 0} → Fate → Result T CallFault → Type 0
IsFated Goes (Err Failed) = ⊥
IsFated Goes result = Unit {0}
IsFated fate (Err Failed) = Unit {0}
IsFated fate result = ⊥

-- without memory for it the call is counted all the same, and the script goes on; of the others some may have acted
pub record Unmade (m new : Memory) : Type 0 where
  pub failing : new.failing ≡ m.failing
  pub stop : new.stop ≡ stop_after (next_call m) m.stop
  pub calls : new.calls ≡ next_call m
  pub faults : new.faults ≡ m.faults
  pub repeats : new.state.repeats ≡ m.state.repeats

-- the others that are due acted, and then the call's own act came out as the script has it; it lost no message
pub record Ran {T : Type 0} (result : Result T CallFault) (m new : Memory) : Type 0 where
  pub act : Act
  pub loses : LosesNothing (ready m).state.repeats.numbers (told_of (ready m).state.kept) act.who (deed act) act.answer
  pub fate : IsFated (fate_of m) result
  pub comes : new ≡ made (fate_of m) act (ready m)

-- how a call that runs goes by the script
abbrev pub RunsBy : {T : Type 0} → Result T CallFault → Memory → Memory → Type 0
RunsBy (Err NoMemory) m new = Unmade m new
RunsBy result m new = Ran result m new

-- how each call goes by the script: after a stop it does nothing
abbrev pub Follows : {T : Type 0} → Memory → Memory → Result T CallFault → Type 0
Follows m new result = MatchBool (is_stopped (told_of m.state.kept)) (new ≡ faulted m) (RunsBy result m new)

-- how a call begins: it is counted and the others that are due act; after a stop it fails
abbrev pub BeginsBy : {T : Type 0} → Result T CallFault → Memory → Memory → Type 0
BeginsBy (Ok value) m now = (is_stopped (told_of m.state.kept) ≡ false) × (now ≡ ready m)
BeginsBy (Err Failed) m now = (is_stopped (told_of m.state.kept) ≡ true) × (now ≡ faulted m)
BeginsBy (Err NoMemory) m now = (is_stopped (told_of m.state.kept) ≡ false) × Unmade m now
BeginsBy (Err fault) m now = ⊥

-- what becomes of the own act of this fate
abbrev pub MadeBy : {T : Type 0} → Result T CallFault → Fate → Act → Memory → Memory → Type 0
MadeBy (Ok value) fate act m new = (fate ≡ Goes) × (new ≡ made fate act m)
MadeBy (Err Failed) fate act m new = IsFated {T = Unit {0}} fate (Err Failed) × (new ≡ made fate act m)
MadeBy (Err NoMemory) fate act m new = new ≡ m
MadeBy (Err fault) fate act m new = ⊥
