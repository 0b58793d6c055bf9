-- The logs that were added so far.
use Rattle.std.proofs.Common.{◌≡◌, ℕ, ◌+◌, ◌<◌, List, [], ◌∷◌, drop, length, Option, Some, None, Result, Ok, Err, ap, sym, subst, ◌∙◌, refl}
use Rattle.std.proofs.lemmas.List.{drop_more}
use Rattle.std.specs.Prelude.{slice_index_or}
use Rattle.chk_control.specs.declared.Class.{Class}
use Rattle.chk_site.specs.History.{History}
use Rattle.chk_site.specs.Site.{Adds}
use Rattle.chk_site.specs.Runs.{Leads}
use Rattle.chk_site.proofs.Leads.{leads_none, leads_then}
use Rattle.chk_world.specs.Checkpoints.{Line}
use Rattle.chk_world.specs.Places.{As}
use Rattle.chk_agent.specs.declared.answers.Added.{Added}
use Rattle.chk_agent.specs.declared.answers.AgentFault.{AgentFault}
use Rattle.chk_agent.specs.declared.answers.AgentFault.TheVariants.{Damaged, Outside as agent_failed, NoMemory as agent_wanting}
use Rattle.chk_agent.specs.Adds.{Found, IsAdded, TakesStream, with_added}
use Rattle.chk_agent.specs.Adds as adds
use Rattle.chk_agent.specs.Facts.{Matches}
use Rattle.chk_agent.specs.Faults.{IsUndamaged}
use Rattle.chk_agent.specs.States.{State, process}
use Rattle.chk_agent.proofs.TurningTold.{IsSameAgent, same_agent}
use Rattle.chk_round.specs.declared.faults.RoundFault.{RoundFault}
use Rattle.chk_round.specs.Adding.{AddsLogs}
use Rattle.chk_round.specs.Adding as adding
use Rattle.chk_round.specs.Faults.{IsOfCall, of_agent}
use Rattle.chk_agent.proofs.Alike.{same_as, with_same}

-- the element at a place is the first of those from there on
pub next_is : (names : List (List ℕ)) (i : ℕ) (item : List ℕ) → i < length names
    → item ≡ slice_index_or names i item → drop i names ≡ item ∷ drop (i + 1) names
next_is names i item low is = drop_more names i item low ∙ ap (λ n. n ∷ drop (i + 1) names) (sym is)

-- what is left of the logs makes all of them
abbrev pub AddedSoFar : Class → List ℕ → List (List ℕ) → List (List ℕ) → State → State → Option History → Option History → Type 0
AddedSoFar class kind all left s t old now =
    (result : Result (Unit {0}) RoundFault) (u : State) (new : Option History)
    → AddsLogs class kind left t result u now new → AddsLogs class kind all s result u old new

pub added_same : {class : Class} {kind path : List ℕ} {s t : State} {added : Added} {old new : Option History}
    → IsAdded class kind path s (Ok added) t old new → IsSameAgent s t
added_same {s = s} (adds.live found is past) = same_agent s
added_same {s = s} (adds.too_many is full) = same_agent s
added_same {s = s} (adds.new name found is may named (adds.written {t = t} after newest same writes)) =
    let k = same_as s t _ same (with_same s found _) in record { source = k.source; ready = k.ready }

-- the cluster stays
added_cluster : {class : Class} {kind path : List ℕ} {s t : State} {added : Added} {old new : Option History}
    → IsAdded class kind path s (Ok added) t old new → t.cluster ≡ s.cluster
added_cluster (adds.live found is past) = refl
added_cluster (adds.too_many is full) = refl
added_cluster {s = s} (adds.new name found is may named (adds.written {t = t} after newest same writes)) =
    ap (λ (k : State). k.cluster) same ∙ go found _
  where
    go : (found : Option Found) (l : Line) → (with_added s found l).cluster ≡ s.cluster
    go None l = refl
    go (Some f) l = refl

pub logs_cluster : {class : Class} {kind : List ℕ} {logs : List (List ℕ)} {s t : State} {old new : Option History}
    → AddsLogs class kind logs s (Ok tt) t old new → t.cluster ≡ s.cluster
logs_cluster adding.all = refl
logs_cluster (adding.one added is rest) = logs_cluster rest ∙ added_cluster is

-- the source stays also where it was refused
pub added_source : {class : Class} {kind path : List ℕ} {s t : State} {fault : AgentFault} {old new : Option History}
    → IsAdded class kind path s (Err fault) t old new → t.source ≡ s.source
added_source (adds.refused name found fault is may named (adds.failed after call newest same writes)) = refl
added_source (adds.refused name found fault is may named (adds.unwritten after newest same writes)) = refl
added_source (adds.refused name found fault is may named (adds.unkept after newest)) = refl
added_source (adds.refused name found fault is may named (adds.unasked asks told)) = refl
added_source (adds.refused name found fault is may named (adds.wanting asks told)) = refl
added_source (adds.refused name found fault is may named adds.unbegun) = refl
added_source adds.wanting = refl

pub of_call : (fault : AgentFault) → IsUndamaged {T = Added} (Err fault) → IsOfCall (of_agent fault)
of_call (Damaged at) is = is
of_call (agent_failed call) is = tt
of_call agent_wanting is = tt

-- ---- what the calls so far lead to

abbrev pub QuietOn : State → State → Option History → Option History → Type 0
QuietOn s t old new = (stamped : List (List ℕ)) → Adds old new (Leads (As stamped (process s)) (Matches stamped s) (Matches stamped t))

pub quiet_none : (s : State) (now : Option History) → QuietOn s s now now
quiet_none s now = λ stamped. leads_none now (λ h x. x)

pub quiet_then : (s t u : State) → t.source ≡ s.source → {old mid new : Option History} → QuietOn s t old mid → QuietOn t u mid new
    → QuietOn s u old new
quiet_then s t u same {mid = mid} {new = new} p q = λ stamped.
    leads_then (p stamped)
    (subst (λ n. Adds mid new (Leads (As stamped (process (record t { source = n }))) (Matches stamped t) (Matches stamped u))) same (q stamped))

-- ---- one more

module _ {class : Class} {kind : List ℕ} {all left : List (List ℕ)} {s t : State} {old now : Option History}
    (path : List ℕ) (more : List (List ℕ)) (next : left ≡ path ∷ more) (so_far : AddedSoFar class kind all left s t old now) where
  here : AddedSoFar class kind all (path ∷ more) s t old now
  here = subst (λ r. AddedSoFar class kind all r s t old now) next so_far

  pub one_added : (u : State) (added : Added) {new : Option History} → IsAdded class kind path t (Ok added) u now new
      → AddedSoFar class kind all more s u old new
  one_added u added is result v late rest = here result v late (adding.one added is rest)

  pub ended_added : (u : State) (fault : AgentFault) {new : Option History} → IsAdded class kind path t (Err fault) u now new
      → AddsLogs class kind all s (Err (of_agent fault)) u old new
  ended_added u fault {new = new} is = here (Err (of_agent fault)) u new (adding.refused fault is)

pub all_added : {class : Class} {kind : List ℕ} {all left : List (List ℕ)} {s t : State} {old now : Option History}
    → AddedSoFar class kind all left s t old now → left ≡ [] → AddsLogs class kind all s (Ok tt) t old now
all_added {class = class} {kind = kind} {all = all} {s = s} {t = t} {old = old} {now = now} so_far none =
    subst (λ r. AddedSoFar class kind all r s t old now) none so_far (Ok tt) t now adding.all
