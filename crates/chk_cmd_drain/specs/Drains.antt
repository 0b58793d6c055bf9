-- A drain as a run.
use Rattle.std.specs.Prelude.{◌≡◌, ◌⊎◌, ℕ, ◌≤◌, false, List, [], ◌++◌, map, Option, Result, Ok, Err}
use Rattle.chk_site.specs.declared.acts.Who.{Who}
use Rattle.chk_site.specs.declared.acts.OutsideFault.{OutsideFault}
use Rattle.chk_site.specs.History.{History, is_stopped}
use Rattle.chk_site.specs.Site.{Rose, EndsIn}
use Rattle.chk_failover.specs.Turns.{Turns}
use Rattle.chk_world.specs.Rules.{Legal}
use Rattle.chk_world.specs.Places.{AtTold}
use Rattle.chk_agent.specs.declared.agent.Rules.{Rules}
use Rattle.chk_agent.specs.declared.answers.AgentFault.{AgentFault}
use Rattle.chk_agent.specs.Commands.{live_from}
use Rattle.chk_agent.specs.States.{State}
use Rattle.chk_agent_run.specs.declared.faults.RunFault.{RunFault}
use Rattle.chk_agent_run.specs.declared.faults.RunFault.TheVariants as runs
use Rattle.chk_agent_run.specs.Faults.{fault_of, outside_fault}
use Rattle.chk_agent_drain.specs.declared.answers.Drained.{Drained}
use Rattle.chk_agent_drain.specs.declared.answers.Drained.TheVariants as drained
use Rattle.chk_agent_drain.specs.Drains.{IsDrained}
use Rattle.chk_agent_drain.specs.Parts.{is_talk}
use Rattle.chk_cmd_output.specs.Printing.{PrintsInTurn}
use Rattle.chk_cmd_drain.specs.declared.begin.Begun.{Begun}
use Rattle.chk_cmd_drain.specs.declared.faults.DrainFault.{DrainFault}
use Rattle.chk_cmd_drain.specs.declared.faults.DrainFault.TheVariants.{Run, Pending, Growing, Shrank, Refused}
use Rattle.chk_cmd_drain.specs.declared.run.Work.{Work}
use Rattle.chk_cmd_drain.specs.Begins.{Begins}
use Rattle.chk_cmd_drain.specs.Streams.{told_line, IsPathAt}

-- the drain isn't done
abbrev pub IsNotDone : Drained → Type 0
IsNotDone drained.Done = ⊥
IsNotDone answer = Unit {0}

-- the path is that of this adaptor, or there was no memory for it
abbrev pub NamesPath : State → ℕ → (List ℕ → DrainFault) → DrainFault → Type 0
NamesPath s i says fault =
    ((path : List ℕ) × IsPathAt s i path × (fault ≡ says path)) ⊎ (fault ≡ Run runs.NoMemory)

-- why it isn't done
abbrev pub IsUndone : State → Drained → DrainFault → Type 0
IsUndone s drained.Done fault = ⊥
IsUndone s (drained.Pending stem got want) fault = fault ≡ Pending stem got want
IsUndone s (drained.Growing i reads) fault = NamesPath s i (λ path. Growing path reads) fault
IsUndone s (drained.Shrank i had is) fault = NamesPath s i (λ path. Shrank path had is) fault
IsUndone s (drained.AllTried count code) fault = fault ≡ Refused code

-- the result of the prints as that of the drain
abbrev pub told_as : Result Unit OutsideFault → Result Unit DrainFault
told_as (Ok value) = Ok value
told_as (Err fault) = Err (Run (outside_fault fault))

-- Where no stream is live nothing is done. Else the agent is drained, and where that is done, the
-- line of each stream that was live is printed, with its committed end.
pub data Finishes (who : Who) (now reads polls : ℕ) (s : State)
    : Result Unit DrainFault → State → Option History → Option History → Type 0 where
  unbegun : {at : Option History} → Finishes who now reads polls s (Err (Run runs.NoMemory)) s at at
  none_live : {at : Option History} → live_from 0 s.adaptors ≡ []
      → Finishes who now reads polls s (Ok tt) s at at
  refused : {t : State} {old new : Option History} (fault : AgentFault)
      → IsDrained now reads polls s (Err fault) t old new
      → Finishes who now reads polls s (Err (Run (fault_of fault))) t old new
  undone : {t : State} {old new : Option History} (answer : Drained) (fault : DrainFault)
      → IsDrained now reads polls s (Ok answer) t old new → IsUndone t answer fault
      → Finishes who now reads polls s (Err fault) t old new
  told : {t : State} {old mid new : Option History} (printed : Result Unit OutsideFault)
      → (live_from 0 s.adaptors ≡ [] → ⊥) → IsDrained now reads polls s (Ok drained.Done) t old mid
      → PrintsInTurn who (map (told_line t) (live_from 0 s.adaptors)) printed mid new
      → Finishes who now reads polls s (told_as printed) t old new

-- it begins, and then it finishes
pub data HasDrained (who writer : Who) (ring : Turns) (rules : Rules) (work : Work)
    : Result Unit DrainFault → Option History → Option History → Type 0 where
  not_begun : {old new : Option History} (fault : RunFault)
      → Begins who writer ring rules work.initial (Err fault) old new
      → HasDrained who writer ring rules work (Err (Run fault)) old new
  drained_so : {t : State} {result : Result Unit DrainFault} {old mid new : Option History}
      (b : Begun)
      → Begins who writer ring rules work.initial (Ok b) old mid
      → Finishes who b.now work.reads work.polls b.agent result t mid new
      → HasDrained who writer ring rules work result old new

-- ---- beside the script

-- at the end the history is legal; the checkpoint isn't damaged, where the site wasn't stopped
abbrev pub DrainEnds : List (List ℕ) → Who → Result Unit DrainFault → History → Type 0
DrainEnds stamped who (Err (Run (runs.Checkpoint at))) history =
    AtTold stamped who (λ front. ⊥) history
DrainEnds stamped who result history = Legal stamped history

-- only a start answers that the checkpoint is damaged
abbrev pub IsNoDamage : Result Unit DrainFault → Type 0
IsNoDamage (Err (Run (runs.Checkpoint at))) = ⊥
IsNoDamage result = Unit {0}

-- the call that failed is the last one, but for a send or the question for a reply
abbrev pub LastOfDrain : Result Unit DrainFault → History → History → Type 0
LastOfDrain (Err (Run (runs.Outside call))) added history =
    is_talk call ≡ false → is_stopped (added ++ history) ≡ false → EndsIn call added
LastOfDrain result added history = Unit {0}

-- without a failed call that is named the count may rise too
abbrev pub DrainCause : ℕ → ℕ → Result Unit DrainFault → Type 0
DrainCause before now (Err (Run (runs.Outside call))) = Rose before now × (before ≤ now)
DrainCause before now result = before ≤ now
