-- Whose steps a look at the agents' checkpoints adds, and what its faults come to.
use Rattle.std.proofs.Common.{◌≡◌, inl, inr, ℕ, List, [], ◌∷◌, Bool, true, false, Option}
use Rattle.std.proofs.Common.{Some, None, Result, Ok, Err, refl, sym, subst, ap}
use Rattle.std.specs.Prelude.{codes, is_none, if◌then◌else◌}
use Rattle.chk_bytes.specs.Words.{before_end}
use Rattle.chk_bytes.specs.WordFaults.{word_fault_of}
use Rattle.chk_site.specs.declared.acts.ActAnswer.{ActAnswer}
use Rattle.chk_site.specs.declared.acts.Call.TheVariants.{List as list_names}
use Rattle.chk_site.specs.declared.acts.CallFault.{CallFault}
use Rattle.chk_site.specs.declared.acts.CallFault.TheVariants as refused
use Rattle.chk_site.specs.declared.acts.Role.TheVariants.{Job}
use Rattle.chk_site.specs.declared.acts.Who.{Who}
use Rattle.chk_site.specs.History.{History, Every}
use Rattle.chk_site.specs.Site.{Adds, asked, answered, names_given, Calls}
use Rattle.chk_site.proofs.Runs.{adds_as, adds_none, adds_then, every_join}
use Rattle.chk_replace.proofs.CallSteps.{call_each}
use Rattle.chk_replace.specs.Load.{IsLook}
use Rattle.chk_world.specs.JobSteps.{IsOf}
use Rattle.chk_world.specs.Sight.{job}
use Rattle.chk_checkpoint.specs.declared.Checkpoint.{Checkpoint}
use Rattle.chk_checkpoint.specs.declared.fault.CheckFault.{CheckFault}
use Rattle.chk_checkpoint.specs.declared.fault.CheckFault.TheVariants as check
use Rattle.chk_checkpoint.specs.Faults.{CheckCause}
use Rattle.chk_record_index.specs.declared.fault.JobFault.{JobFault}
use Rattle.chk_record_index.specs.declared.fault.JobFault.TheVariants.{Damaged, NoMemory, Outside, Spent}
use Rattle.chk_record_index.specs.Faults.{IsDamage, IsOfRead, JobCause}
use Rattle.chk_ctl_passed.specs.declared.judging.Verdict.{Verdict}
use Rattle.chk_ctl_passed.specs.Agents.{agent_named, agent_of, at_end, ByEach, ByFolder}
use Rattle.chk_ctl_passed.specs.Agents.{ByNames, ended, IsFaultIn, lists}
use Rattle.chk_ctl_passed.specs.Agents.{LooksAtAgents, One, OneMore, went_on}
use Rattle.chk_ctl_passed.specs.Oldest.{LooksAtLog}
use Rattle.chk_ctl_passed.specs.Passing.{check_name, Followed, HasPassed, Looks}
use Rattle.chk_ctl_passed.proofs.Joined.{every_as}

damage_only : (name : List ℕ) (at : ℕ) (told : JobFault) → IsDamage name at told → IsOfRead told
damage_only name at (Damaged which place) x = tt
damage_only name at NoMemory x = tt
damage_only name at (Outside call) x = absurd x
damage_only name at (Spent number) x = absurd x

damage_cause : (V : Type 0) (name : List ℕ) (at : ℕ) (told : JobFault) (before now : ℕ)
    → IsDamage name at told → now ≡ before → JobCause {T = V} before now (Err told)
damage_cause V name at (Damaged which place) before now x same = same
damage_cause V name at NoMemory before now x same = same
damage_cause V name at (Outside call) before now x same = absurd x
damage_cause V name at (Spent number) before now x same = absurd x

pub fault_only : (name : List ℕ) (fault : CheckFault) (told : JobFault)
    → IsFaultIn name fault told → IsOfRead told
fault_only name (check.Damaged at) told x = damage_only name at told x
fault_only name (check.Outside call) told x = subst IsOfRead (sym x) tt
fault_only name check.NoMemory told x = subst IsOfRead (sym x) tt

pub fault_cause : (T V : Type 0) (name : List ℕ) (fault : CheckFault) (told : JobFault)
    (before now : ℕ) → IsFaultIn name fault told → CheckCause {T = T} before now (Err fault)
    → JobCause {T = V} before now (Err told)
fault_cause T V name (check.Damaged at) told before now x cause =
    damage_cause V name at told before now x cause
fault_cause T V name (check.Outside call) told before now x cause =
    subst (λ (f : JobFault). JobCause {T = V} before now (Err f)) (sym x) cause
fault_cause T V name check.NoMemory told before now x cause =
    subst (λ (f : JobFault). JobCause {T = V} before now (Err f)) (sym x) cause

-- nothing was added
same_own : (path : List ℕ) {old new : Option History} → new ≡ old
    → Adds old new (Every (LooksAtAgents path))
same_own path {old = old} same =
    subst (λ (now : Option History). Adds old now (Every (LooksAtAgents path))) (sym same)
    (adds_none old (Every (LooksAtAgents path)) (λ history. tt))

join_own : (path : List ℕ) {old mid new : Option History}
    → Adds old mid (Every (LooksAtAgents path)) → Adds mid new (Every (LooksAtAgents path))
    → Adds old new (Every (LooksAtAgents path))
join_own path p q =
    adds_then (Every (LooksAtAgents path)) p q
    (λ a b h x y. every_join (LooksAtAgents path) b a h x y)

-- the looks of one agent's checkpoint
looks_own : (path : List ℕ) (agent : Who) → agent.role ≡ Job → {old new : Option History}
    → Adds old new (Every (Looks agent path)) → Adds old new (Every (LooksAtAgents path))
looks_own path agent is told =
    adds_as (Every (LooksAtAgents path)) told
    (λ a h x.
    every_as (Looks agent path) (LooksAtAgents path) (λ before step y. inr (agent, is, y)) a h x)

followed_own : (agent : Who) (path : List ℕ) (given : Result Checkpoint CheckFault)
    (result : Result Verdict CheckFault) {old new : Option History}
    → Followed path given result old new → Adds old new (Every (Looks agent path))
followed_own agent path (Ok check) result x =
    adds_as (Every (Looks agent path)) x.own
    (λ a h y.
    every_as (IsOf (LooksAtLog path)) (Looks agent path) (λ before step z. inr z) a h y)
followed_own agent path (Err fault) result {old = old} x =
    subst (λ (now : Option History). Adds old now (Every (Looks agent path))) (sym x.0)
    (adds_none old (Every (Looks agent path)) (λ history. tt))

passed_own : (agent : Who) (path : List ℕ) (result : Result Verdict CheckFault)
    {old new : Option History} → HasPassed agent path result old new
    → Adds old new (Every (Looks agent path))
passed_own agent path result x =
    adds_then (Every (Looks agent path)) x.reads (followed_own agent path x.given result x.followed)
    (λ a b h y z.
    every_join (Looks agent path) b a h
    (every_as (IsLook agent (check_name agent)) (Looks agent path) (λ before step w. inl w) a h y)
    z)

-- an agent whose checkpoint is looked at is read as the job
by_word : (source : List ℕ) (b : Bool) (agent : Who)
    → (if b then Some (record { role = Job; name = source }) else None) ≡ Some agent
    → agent.role ≡ Job
by_word source true agent e =
    ap (λ (w : Who). w.role) (let x : agent ≡ record { role = Job; name = source } = cc in x)
by_word source false agent e = absurd (let x : None ≡ Some agent = e in cc)

pub role_by : (o : Option (List ℕ)) (agent : Who)
    → elim o [ None ↦ None | Some source ↦ agent_named source ] ≡ Some agent
    → agent.role ≡ Job
role_by None agent e = absurd (let x : None ≡ Some agent = e in cc)
role_by (Some source) agent e = by_word source (is_none (word_fault_of source)) agent e

one_own : (path : List ℕ) (verdict : Verdict) (o : Option Who) (result : Result Verdict JobFault)
    → ((agent : Who) → o ≡ Some agent → agent.role ≡ Job) → {old new : Option History}
    → One path verdict o result old new → Adds old new (Every (LooksAtAgents path))
one_own path verdict None result is x = same_own path x.0
one_own path verdict (Some agent) result is x =
    looks_own path agent (is agent refl) (passed_own agent path x.0 x.1)

more_own : (path : List ℕ) (verdict : Verdict) (name : List ℕ) (result : Result Verdict JobFault)
    {old new : Option History} → OneMore path verdict name result old new
    → Adds old new (Every (LooksAtAgents path))
more_own path verdict name result (inl x) =
    one_own path verdict (agent_of name) result
    (λ agent e. role_by (before_end (codes ".check") name) agent e) x
more_own path verdict name result (inr x) = same_own path x.0

each_own : (path : List ℕ) (result : Result Verdict JobFault) (names : List (List ℕ))
    (verdict : Verdict) {old new : Option History}
    → ByEach path result names verdict old new → Adds old new (Every (LooksAtAgents path))
each_own path result names verdict (at_end e) = same_own path refl
each_own path result names verdict (ended {name = name} {fault = fault} e x) =
    more_own path verdict name (Err fault) x
each_own path result names verdict (went_on {name = name} {names = rest} {next = next} x more) =
    join_own path (more_own path verdict name (Ok next) x) (each_own path result rest next more)

names_own : (path : List ℕ) (given : Result (List (List ℕ)) CallFault)
    (result : Result Verdict JobFault) {old new : Option History}
    → ByNames path given result old new → Adds old new (Every (LooksAtAgents path))
names_own path (Ok names) result x = each_own path result names _ x
names_own path (Err refused.Failed) result x = same_own path x.0
names_own path (Err refused.NoMemory) result x = same_own path x.0
names_own path (Err refused.Missing) result x = absurd x
names_own path (Err refused.Exists) result x = absurd x
names_own path (Err (refused.Short size)) result x = absurd x

listing_own : (path : List ℕ) (given : Result ActAnswer CallFault) {old new : Option History}
    → Adds old new (Calls (asked job list_names (codes "agents" ∷ []) 0 0) given)
    → Adds old new (Every (LooksAtAgents path))
listing_own path given told =
    adds_as (Every (LooksAtAgents path)) told
    (λ added history calls.
    call_each (LooksAtAgents path) given (λ before step theirs. inl (inl theirs))
    (λ before answer files logs running honest.
    inl (inr (record { own = refl; running = running; honest = honest; by = refl }, lists)))
    calls)

-- all that the look adds
pub folder_own : (path : List ℕ) (result : Result Verdict JobFault) {old new : Option History}
    → ByFolder path result old new → Adds old new (Every (LooksAtAgents path))
folder_own path result x =
    join_own path (listing_own path (answered names_given x.given) x.listed)
    (names_own path x.given result x.each)
