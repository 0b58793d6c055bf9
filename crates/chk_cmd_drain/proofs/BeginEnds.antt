-- What the beginning of a drain leads to.
use Rattle.std.proofs.Common.{◌≡◌, ℕ, List, Option, Err, sym, subst}
use Rattle.chk_site.specs.declared.acts.Role.TheVariants.{Writer}
use Rattle.chk_site.specs.declared.acts.Who.{Who}
use Rattle.chk_site.specs.History.{History, Every}
use Rattle.chk_site.specs.Site.{Adds}
use Rattle.chk_site.specs.Runs.{Leads}
use Rattle.chk_site.proofs.Leads.{leads_as, leads_then}
use Rattle.chk_world.specs.Rules.{Legal}
use Rattle.chk_world.specs.Places.{As}
use Rattle.chk_agent.specs.States.{State, process}
use Rattle.chk_agent.specs.Facts.{Matches}
use Rattle.chk_agent.proofs.TurningTold.{TalksOn}
use Rattle.chk_agent_run.specs.declared.faults.RunFault.{RunFault}
use Rattle.chk_agent_run.specs.declared.faults.RunFault.TheVariants.{Initial, Checkpoint, Outside, NoMemory}
use Rattle.chk_agent_run.specs.Initial.{LooksAt}
use Rattle.chk_agent_run.specs.Runs.{InRun, RunEnds}
use Rattle.chk_agent_run.proofs.Started.{talks_in_run, acts_in_run, reads_in_run}
use Rattle.chk_cmd_drain.specs.Begins.{BeginsWith}

module _ (stamped : List (List ℕ)) (who writer : Who) where
  -- the refusal of a run is one of the beginning
  begins_as : (fault : RunFault) (h : History) → RunEnds stamped who (Err fault) h
      → BeginsWith stamped who (Err fault) h
  begins_as (Initial at) h x = x
  begins_as (Checkpoint at) h x = x
  begins_as (Outside call) h x = x
  begins_as NoMemory h x = x

  pub begins_so : (fault : RunFault) {old new : Option History}
      → Adds old new (Leads (InRun stamped who writer) (Legal stamped)
      (RunEnds stamped who (Err fault)))
      → Adds old new (Leads (InRun stamped who writer) (Legal stamped)
      (BeginsWith stamped who (Err fault)))
  begins_so fault told = leads_as (λ h k. k) (begins_as fault) told

  -- behind the start the history holds the agent
  pub begun_leads : writer.role ≡ Writer → {old mid next new : Option History}
      → Adds old mid (Every (LooksAt writer))
      → (s t : State) → who ≡ process s
      → Adds mid next (Leads (As stamped who) (Legal stamped) (Matches stamped s))
      → TalksOn s t next new
      → Adds old new (Leads (InRun stamped who writer) (Legal stamped) (Matches stamped t))
  begun_leads role {next = next} {new = new} reads s t me started talks =
      leads_then (reads_in_run stamped who writer role reads)
      (leads_then (acts_in_run stamped who writer started)
      (subst (λ (w : Who). Adds next new
      (Leads (InRun stamped w writer) (Matches stamped s) (Matches stamped t))) (sym me)
      (talks_in_run stamped (process s) writer (talks stamped))))
