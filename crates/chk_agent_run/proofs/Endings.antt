-- The parts of a run in their order, and what it leads to at each end.
use Rattle.std.proofs.Common.{◌≡◌, ℕ, ◌≤◌, true, List, [], ◌∷◌, ◌++◌, Option, Result, Ok, Err, ap, sym, subst, ◌∙◌, refl}
use Rattle.std.specs.Prelude.{IsTrue, IfOk}
use Rattle.chk_site.specs.declared.acts.Role.TheVariants.{Agent, Writer}
use Rattle.chk_site.specs.declared.acts.Who.{Who}
use Rattle.chk_site.specs.declared.acts.OutsideFault.{OutsideFault}
use Rattle.chk_site.specs.declared.acts.OutsideFault.TheVariants.{Outside as site_failed, NoMemory as site_wanting}
use Rattle.chk_site.specs.History.{History, Every}
use Rattle.chk_site.specs.Site.{Adds}
use Rattle.chk_site.specs.Runs.{Leads, Owns, HasStarted}
use Rattle.chk_site.proofs.Leads.{leads_then, leads_as}
use Rattle.chk_site.proofs.Runs.{adds_as}
use Rattle.chk_failover.specs.Turns.{Turns}
use Rattle.chk_world.specs.Rules.{Legal}
use Rattle.chk_world.specs.Places.{As, IsBy, AtTold}
use Rattle.chk_agent.specs.declared.agent.Rules.{Rules}
use Rattle.chk_agent.specs.declared.answers.AgentFault.{AgentFault}
use Rattle.chk_agent.specs.declared.answers.AgentFault.TheVariants.{Damaged, Outside as agent_failed, NoMemory as agent_wanting}
use Rattle.chk_agent.specs.States.{State, process}
use Rattle.chk_agent.specs.Starts.{IsFresh, Started, StartsAndReads, FindsCheckpoint}
use Rattle.chk_agent.specs.Facts.{Matches}
use Rattle.chk_agent.proofs.TurningTold.{TalksOn}
use Rattle.chk_agent_run.specs.declared.faults.RunFault.{RunFault}
use Rattle.chk_agent_run.specs.declared.faults.RunFault.TheVariants.{Initial, Checkpoint, Outside, NoMemory}
use Rattle.chk_agent_run.specs.declared.turn.Ended.{Ended}
use Rattle.chk_agent_run.specs.Faults.{fault_of, outside_fault, IsNoCheckpoint}
use Rattle.chk_agent_run.specs.Initial.{LooksAt}
use Rattle.chk_agent_run.specs.Runs.{StartsSo, InRun, RunEnds}
use Rattle.chk_agent_run.proofs.Carried.{Carried, ends_with}
use Rattle.chk_agent_run.proofs.Started.{talks_in_run, acts_in_run, reads_in_run}

-- what the clauses of the start say; its own steps are by the agent
pub start_so : (who : Who) (result : Result State AgentFault) {old new : Option History}
    → Adds old new (Leads (As [] who) (Legal []) (Started [] who result))
    → StartsAndReads who result old new → FindsCheckpoint (λ s. s.saved) who result old new
    → StartsSo who result old new
start_so who result p acts whole = record {
  own = adds_as (Owns (IsBy who)) p (λ a h x. x.own);
  acts = acts;
  whole = whole;
}

pub who_started : (who : Who) (ring : Turns) (rules : Rules) (s : State) → who.role ≡ Agent → IsFresh who ring rules s → who ≡ process s
who_started who ring rules s role fresh = λ i. record { role = role i; name = source i }
  where
    source : who.name ≡ s.source
    source = sym fresh.source

-- ---- what it leads to

module _ (stamped : List (List ℕ)) (who writer : Who) (role : writer.role ≡ Writer) {old mid : Option History}
    (reads : Adds old mid (Every (LooksAt writer))) where
  -- the file was read
  pub read_leads : Adds old mid (Leads (InRun stamped who writer) (Legal stamped) (Legal stamped))
  read_leads = reads_in_run stamped who writer role reads

  fault_legal : (fault : AgentFault) (h : History) → Started stamped who (Err fault) h → RunEnds stamped who (Err (fault_of fault)) h
  fault_legal (Damaged at) h x = x
  fault_legal (agent_failed call) h x = x
  fault_legal agent_wanting h x = x

  pub unstarted_leads : (fault : AgentFault) {new : Option History}
      → Adds mid new (Leads (As stamped who) (Legal stamped) (Started stamped who (Err fault)))
      → Adds old new (Leads (InRun stamped who writer) (Legal stamped) (RunEnds stamped who (Err (fault_of fault))))
  unstarted_leads fault started =
      leads_then read_leads (leads_as (λ h x. x) (fault_legal fault) (acts_in_run stamped who writer started))

  -- an end behind the start
  module _ (s t : State) (me : who ≡ process s) {next new : Option History}
      (started : Adds mid next (Leads (As stamped who) (Legal stamped) (Matches stamped s))) (talks : TalksOn s t next new) where
    late_leads : Adds old new (Leads (InRun stamped who writer) (Legal stamped) (Matches stamped t))
    late_leads =
        leads_then read_leads
        (leads_then (acts_in_run stamped who writer started)
        (subst (λ (w : Who). Adds next new (Leads (InRun stamped w writer) (Matches stamped s) (Matches stamped t))) (sym me)
        (talks_in_run stamped (process s) writer (talks stamped))))

    ends_legal : (result : Result Ended RunFault) → IsNoCheckpoint result → (h : History) → Legal stamped h → RunEnds stamped who result h
    ends_legal (Ok ended) none h x = x
    ends_legal (Err (Initial at)) none h x = x
    ends_legal (Err (Checkpoint at)) none h x = absurd none
    ends_legal (Err (Outside call)) none h x = x
    ends_legal (Err NoMemory) none h x = x

    pub late_ends : (result : Result Ended RunFault) → IsNoCheckpoint result
        → Adds old new (Leads (InRun stamped who writer) (Legal stamped) (RunEnds stamped who result))
    late_ends result none = leads_as (λ h x. x) (λ h x. ends_legal result none h x.legal) late_leads

-- where the file wasn't read
pub unread_leads : (stamped : List (List ℕ)) (who writer : Who) → writer.role ≡ Writer → {old new : Option History}
    → Adds old new (Every (LooksAt writer)) → (fault : OutsideFault)
    → Adds old new (Leads (InRun stamped who writer) (Legal stamped) (RunEnds stamped who (Err (outside_fault fault))))
unread_leads stamped who writer role reads (site_failed call) = reads_in_run stamped who writer role reads
unread_leads stamped who writer role reads site_wanting = reads_in_run stamped who writer role reads
