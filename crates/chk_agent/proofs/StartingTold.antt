-- What a start knows of the told history, up to the lines of its checkpoint.
use Rattle.std.proofs.Common.{◌≡◌, ℕ, List, [], ◌∷◌, ◌++◌, Option, Result, Ok, Err, sym, subst}
use Rattle.std.proofs.Common.{refl, inl, false, append_assoc}
use Rattle.std.specs.Prelude.{IsTrue, IfOk, if◌then◌else◌}
use Rattle.chk_site.specs.declared.acts.Role.TheVariants.{Agent}
use Rattle.chk_site.specs.declared.acts.Who.{Who}
use Rattle.chk_site.specs.declared.acts.Call.{Call}
use Rattle.chk_site.specs.declared.acts.Call.TheVariants.{Start}
use Rattle.chk_site.specs.declared.acts.CallFault.TheVariants.{Failed}
use Rattle.chk_site.specs.declared.acts.OutsideFault.{OutsideFault}
use Rattle.chk_site.specs.declared.acts.OutsideFault.TheVariants.{Outside as site_failed}
use Rattle.chk_site.specs.declared.acts.OutsideFault.TheVariants.{NoMemory as no_memory}
use Rattle.chk_site.specs.declared.acts.ActAnswer.{ActAnswer}
use Rattle.chk_site.specs.declared.acts.ActAnswer.TheVariants.{Refused, Stopped}
use Rattle.chk_site.specs.History.{History, Every, files_after, since_start, is_stopped}
use Rattle.chk_site.specs.Site.{Adds, Asked, asked, plain, EndsIn}
use Rattle.chk_site.specs.Runs.{HasStarted, Leads}
use Rattle.chk_site.proofs.Runs.{adds_as, adds_both, done_answer}
use Rattle.chk_site.proofs.Leads.{Shows, leads_then, leads_as, ends_leads}
use Rattle.chk_replace.specs.Load.{IsLook}
use Rattle.chk_checkpoint.specs.declared.Checkpoint.{Checkpoint}
use Rattle.chk_checkpoint.specs.declared.fault.CheckFault.{CheckFault}
use Rattle.chk_checkpoint.specs.declared.fault.CheckFault.TheVariants.{Damaged, Outside, NoMemory}
use Rattle.chk_checkpoint.specs.Faults.{FailsLast as CheckFailsLast}
use Rattle.chk_checkpoint.specs.Loads.{IsSound}
use Rattle.chk_world.specs.Names.{CheckFile, is_source, spell}
use Rattle.chk_world.specs.Checkpoints.{Line, checkpoint_lines}
use Rattle.chk_world.specs.Agents.{AllOfCluster}
use Rattle.chk_world.specs.Rules.{Legal}
use Rattle.chk_world.specs.Places.{As, AtTold}
use Rattle.chk_world.specs.Knowing.{agent, Told}
use Rattle.chk_world.proofs.ToldCalls.{told_start, owned, who_self}
use Rattle.chk_agent.specs.declared.answers.AgentFault.{AgentFault}
use Rattle.chk_agent.specs.Faults.{FailsLast, fault_of, loaded_fault}
use Rattle.chk_agent.specs.Loading.{MadeOnce, Loaded}
use Rattle.chk_agent.proofs.StartingLooks.{looks_on}
use Rattle.chk_site.proofs.LastCalls.{ends_in_both as ends_later}

pub start_begun : (who : Who) {old new : Option History} → MadeOnce (asked who Start [] 0 0) (Ok tt) old new
    → Adds old new (HasStarted who)
start_begun who m =
    adds_as (HasStarted who) m.told
    (λ added history calls.
    let acted = (done_answer m.given m.came calls).2 in
    subst (λ (a : History). HasStarted who a history) (sym acted.added_is) (inl (refl, refl)))

pub if_ok : {T E : Type 0} (P : Type 0) (result : Result T E) → P → IfOk result (λ value. P)
if_ok P (Ok value) p = p
if_ok P (Err e) p = tt

-- where the start or a read ended the work, the history is legal
pub legal_ended : (stamped : List (List ℕ)) (cluster : List ℕ) (who : Who) (fault : OutsideFault) (h : History) → Legal stamped h
    → Loaded stamped cluster who (Err (fault_of fault)) h
legal_ended stamped cluster who (site_failed call) h legal = legal
legal_ended stamped cluster who no_memory h legal = legal

-- the result of a load, as an agent's
abbrev pub load_result : Result Checkpoint CheckFault → Result Checkpoint AgentFault
load_result (Ok check) = Ok check
load_result (Err fault) = Err (loaded_fault fault)

-- the call that failed in a load is the last one of the start
pub load_fails : (r : Result Checkpoint CheckFault) (b a history : History) → CheckFailsLast r b (a ++ history)
    → FailsLast (load_result r) (b ++ a) history
load_fails (Ok check) b a history fails = tt
load_fails (Err (Damaged at)) b a history fails = tt
load_fails (Err (Outside call)) b a history fails = λ run.
    ends_later call b a (fails (subst (λ h. is_stopped h ≡ false) (append_assoc b a history) run))
load_fails (Err NoMemory) b a history fails = tt

module _ (stamped : List (List ℕ)) (source : List ℕ) (known : IsTrue (is_source source)) (cluster : List ℕ) where
  abbrev Me : Who
  Me = agent source

  abbrev StartQ : Asked
  StartQ = asked Me Start [] 0 0

  -- nothing was sent since the start
  abbrev Begun : History → Type 0
  Begun h = AllOfCluster cluster (since_start Me h)

  begin_done : (u : Unit {0}) {old new : Option History} → MadeOnce StartQ (Ok u) old new
      → Adds old new (Leads (As stamped Me) (Legal stamped) (AtTold stamped Me Begun))
  begin_done u m =
      told_start stamped Me Begun m.given known
      (λ before answer files logs was legal.
      subst (λ b. AllOfCluster cluster (if b then [] else since_start Me before)) (sym (who_self Me)) tt) m.came m.told

  start_shows : (answer : ActAnswer) → Shows (Legal stamped) (Legal stamped) StartQ answer
  start_shows answer before files logs running honest legal = (
    legal,
    record { honest = honest; named = known; starts = tt; own_files = tt; logs = tt; requests = tt; rule = tt },
  )

  begin_ended : (fault : OutsideFault) {old new : Option History} → MadeOnce StartQ (Err fault) old new
      → Adds old new (Leads (As stamped Me) (Legal stamped) (Legal stamped))
  begin_ended fault m =
      ends_leads (λ f. Legal stamped) plain m.given fault (owned stamped StartQ known) m.came (λ before step theirs f h. (h, f.obeys))
      (start_shows (Refused Failed)) (λ left. start_shows (Stopped left)) (λ before stopped h. h) (λ before h. h) m.told

  -- the checkpoint has some lines
  abbrev HasSome : History → Type 0
  HasSome h = (lines : List Line) × Told stamped source cluster lines (λ h. Unit {0}) h

  has_some : (h : History) → AtTold stamped Me Begun h → HasSome h
  has_some h x = (
    checkpoint_lines (files_after h) source,
    record { legal = x.legal; may_act = x.may_act; alive = λ r. record { one_cluster = x.alive r; lines_are = refl; holds = tt } },
  )

  -- the load finds them
  by_load : (r : Result Checkpoint CheckFault) (h : History) → HasSome h → IsSound source r h
      → Loaded stamped cluster Me (load_result r) h
  by_load (Ok check) h (lines, x) sound = record {
    legal = x.legal;
    may_act = x.may_act;
    alive = λ r. let k = x.alive r in record { one_cluster = k.one_cluster; lines_are = sound; holds = tt };
  }
  by_load (Err (Damaged at)) h (lines, x) sound = absurd sound
  by_load (Err (Outside call)) h (lines, x) sound = x.legal
  by_load (Err NoMemory) h (lines, x) sound = x.legal

  load_leads : (r : Result Checkpoint CheckFault) (name : List ℕ) {old new : Option History}
      → Adds old new (Every (IsLook Me name)) → Adds old new (Leads (As stamped Me) (Legal stamped) (IsSound source r))
      → Adds old new (Leads (As stamped Me) HasSome (Loaded stamped cluster Me (load_result r)))
  load_leads r name looks sound =
      adds_both (Leads (As stamped Me) HasSome (Loaded stamped cluster Me (load_result r))) looks sound
      (λ added history every s. record {
        leads = λ others h.
            let now = looks_on stamped source known cluster h.0 (λ h. Unit {0}) (λ before step legal no_start x. tt) name added history every others h.1 in
            by_load r (added ++ history) (h.0, now) (s.leads others h.1.legal);
        own = s.own;
      })

  started_leads : (u : Unit {0}) (r : Result Checkpoint CheckFault) (name : List ℕ) {old mid new : Option History}
      → MadeOnce StartQ (Ok u) old mid
      → Adds mid new (Every (IsLook Me name)) → Adds mid new (Leads (As stamped Me) (Legal stamped) (IsSound source r))
      → Adds old new (Leads (As stamped Me) (Legal stamped) (Loaded stamped cluster Me (load_result r)))
  started_leads u r name m looks sound =
      leads_then (leads_as (λ h x. x) has_some (begin_done u m)) (load_leads r name looks sound)

-- ---- the same of a process that is an agent

abbrev AgentFact : (Who → Type 0) → Type 0
AgentFact F = (who : Who) → who.role ≡ Agent → IsTrue (is_source who.name) → F who

pub of_agent : (F : Who → Type 0) → ((source : List ℕ) → IsTrue (is_source source) → F (agent source)) → AgentFact F
of_agent F each who role known =
    subst (λ r. F (record { role = r; name = who.name })) (sym role) (each who.name known)

pub unbegun_told : (stamped : List (List ℕ)) (cluster : List ℕ) (fault : OutsideFault) {old new : Option History}
    → AgentFact (λ who. MadeOnce (asked who Start [] 0 0) (Err fault) old new
    → Adds old new (Leads (As stamped who) (Legal stamped) (Loaded stamped cluster who (Err (fault_of fault)))))
unbegun_told stamped cluster fault {old = old} {new = new} =
    of_agent
    (λ who. MadeOnce (asked who Start [] 0 0) (Err fault) old new
    → Adds old new (Leads (As stamped who) (Legal stamped) (Loaded stamped cluster who (Err (fault_of fault)))))
    (λ source known m.
    leads_as (λ h x. x) (legal_ended stamped cluster (agent source) fault) (begin_ended stamped source known cluster fault m))

pub loaded_told : (stamped : List (List ℕ)) (cluster : List ℕ) (u : Unit {0}) (r : Result Checkpoint CheckFault)
    {old mid new : Option History}
    → AgentFact (λ who. MadeOnce (asked who Start [] 0 0) (Ok u) old mid
    → Adds mid new (Every (IsLook who (spell (CheckFile who.name))))
    → Adds mid new (Leads (As stamped who) (Legal stamped) (IsSound who.name r))
    → Adds old new (Leads (As stamped who) (Legal stamped) (Loaded stamped cluster who (load_result r))))
loaded_told stamped cluster u r {old = old} {mid = mid} {new = new} =
    of_agent
    (λ who. MadeOnce (asked who Start [] 0 0) (Ok u) old mid
    → Adds mid new (Every (IsLook who (spell (CheckFile who.name))))
    → Adds mid new (Leads (As stamped who) (Legal stamped) (IsSound who.name r))
    → Adds old new (Leads (As stamped who) (Legal stamped) (Loaded stamped cluster who (load_result r))))
    (λ source known m looks sound. started_leads stamped source known cluster u r (spell (CheckFile source)) m looks sound)
