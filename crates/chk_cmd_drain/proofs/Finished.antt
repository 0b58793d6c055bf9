-- What a drain that has begun comes to.
use Rattle.std.proofs.Common.{◌≡◌, inl, inr, ◌≤◌, ℕ, true, List, ◌++◌, Option, Result, Ok, Err, sym, ◌∙◌, subst, arith}
use Rattle.chk_bytes.specs.Stems.{Stem}
use Rattle.chk_site.specs.declared.acts.Who.{Who}
use Rattle.chk_site.specs.declared.acts.OutsideFault.{OutsideFault}
use Rattle.chk_site.specs.declared.acts.OutsideFault.TheVariants.{Outside as site_failed, NoMemory as no_memory}
use Rattle.chk_site.specs.History.{History}
use Rattle.chk_site.specs.Site.{Adds, LastFailed, OutsideCause}
use Rattle.chk_site.specs.Runs.{Leads}
use Rattle.chk_site.proofs.Runs.{adds_as, adds_then}
use Rattle.chk_site.proofs.LastCalls.{last_of_both as last_then}
use Rattle.chk_world.specs.Places.{Talking}
use Rattle.chk_agent.specs.declared.answers.AgentFault.{AgentFault}
use Rattle.chk_agent.specs.declared.answers.AgentFault.TheVariants.{Damaged, Outside as agent_failed, NoMemory as agent_wanting}
use Rattle.chk_agent.specs.States.{State, process}
use Rattle.chk_agent.specs.Facts.{Matches}
use Rattle.chk_agent.specs.Faults.{AgentCause, IsUndamaged}
use Rattle.chk_agent.specs.Fits.{IsSound}
use Rattle.chk_agent.proofs.TurningTold.{TalksOn, talks_then}
use Rattle.chk_agent_run.specs.declared.faults.RunFault.TheVariants as runs
use Rattle.chk_agent_run.specs.Faults.{fault_of}
use Rattle.chk_agent_drain.specs.declared.answers.Drained.{Drained}
use Rattle.chk_agent_drain.specs.declared.answers.Drained.TheVariants as drained
use Rattle.chk_agent_run.proofs.Turned.{process_on}
use Rattle.chk_agent_drain.specs.Parts.{FailsLastBut}
use Rattle.chk_agent_drain.specs.Whole.{DrainsTo}
use Rattle.chk_cmd_output.specs.Printing.{PrintsInTurn}
use Rattle.chk_cmd_drain.specs.declared.faults.DrainFault.{DrainFault}
use Rattle.chk_cmd_drain.specs.declared.faults.DrainFault.TheVariants.{Run, Pending, Growing, Shrank, Refused}
use Rattle.chk_cmd_drain.specs.Drains.{IsUndone, NamesPath, IsNoDamage, told_as, LastOfDrain, DrainCause}
use Rattle.chk_cmd_drain.proofs.PrintsTalk.{prints_talk}

-- a drain leads from the one state to the other
pub drain_talks : (s : State) (result : Result Drained AgentFault)
    (t : State) {old new : Option History}
    → ((stamped : List (List ℕ)) → Adds old new (DrainsTo stamped s result t)) → TalksOn s t old new
drain_talks s result t told stamped =
    adds_as (Leads (Talking stamped (process s)) (Matches stamped s) (Matches stamped t))
    (told stamped)
    (λ a h x. x.leads)

-- ---- a drain that was refused

pub refused_undamaged : (fault : AgentFault) → IsUndamaged {T = Drained} (Err fault)
    → IsNoDamage (Err (Run (fault_of fault)))
refused_undamaged (Damaged at) none = none
refused_undamaged (agent_failed call) none = tt
refused_undamaged agent_wanting none = tt

pub refused_last : (fault : AgentFault) {old new : Option History}
    → Adds old new (FailsLastBut (Err fault))
    → Adds old new (LastOfDrain (Err (Run (fault_of fault))))
refused_last fault p = adds_as (LastOfDrain (Err (Run (fault_of fault)))) p (of fault)
  where
    of : (f : AgentFault) (a h : History) → FailsLastBut (Err f) a h
        → LastOfDrain (Err (Run (fault_of f))) a h
    of (Damaged at) a h x = tt
    of (agent_failed call) a h x = x
    of agent_wanting a h x = tt

pub refused_cause : (before now : ℕ) (fault : AgentFault)
    → AgentCause {T = Drained} before now (Err fault)
    → DrainCause before now (Err (Run (fault_of fault)))
refused_cause before now (Damaged at) cause = cause
refused_cause before now (agent_failed call) cause = cause
refused_cause before now agent_wanting cause = cause

-- ---- a drain that isn't done

-- no call that failed is its answer
module _ (P : DrainFault → Type 0) (wanting : P (Run runs.NoMemory))
    (pending : (stem : Stem) (got want : ℕ) → P (Pending stem got want))
    (growing : (path : List ℕ) (reads : ℕ) → P (Growing path reads))
    (shrank : (path : List ℕ) (had is : ℕ) → P (Shrank path had is))
    (refused : (code : ℕ) → P (Refused code)) where
  named : (s : State) (i : ℕ) (says : List ℕ → DrainFault) (fault : DrainFault)
      → ((path : List ℕ) → P (says path)) → NamesPath s i says fault → P fault
  named s i says fault all (inl k) = subst P (sym k.2) (all k.0)
  named s i says fault all (inr is) = subst P (sym is) wanting

  pub undone_so : (s : State) (drained : Drained) (fault : DrainFault) → IsUndone s drained fault
      → P fault
  undone_so s drained.Done fault is = absurd is
  undone_so s (drained.Pending stem got want) fault is = subst P (sym is) (pending stem got want)
  undone_so s (drained.Growing i reads) fault is =
      named s i (λ path. Growing path reads) fault (λ path. growing path reads) is
  undone_so s (drained.Shrank i had size) fault is =
      named s i (λ path. Shrank path had size) fault (λ path. shrank path had size) is
  undone_so s (drained.AllTried count code) fault is = subst P (sym is) (refused code)

pub undone_undamaged : (s : State) (drained : Drained) (fault : DrainFault)
    → IsUndone s drained fault
    → IsNoDamage (Err fault)
undone_undamaged s drained fault is =
    undone_so (λ f. IsNoDamage (Err f)) tt (λ stem got want. tt) (λ path reads. tt)
    (λ path had size. tt)
    (λ code. tt) s drained fault is

pub undone_last : (s : State) (drained : Drained) (fault : DrainFault) → IsUndone s drained fault
    → {P : History → History → Type 0} {old new : Option History} → Adds old new P
    → Adds old new (LastOfDrain (Err fault))
undone_last s drained fault is p =
    adds_as (LastOfDrain (Err fault)) p
    (λ a h x. undone_so (λ f. LastOfDrain (Err f) a h) tt (λ stem got want. tt) (λ path reads. tt)
    (λ path had size. tt) (λ code. tt) s drained fault is)

pub undone_cause : (s : State) (drained : Drained) (fault : DrainFault) → IsUndone s drained fault
    → (before now : ℕ) → before ≤ now → DrainCause before now (Err fault)
undone_cause s drained fault is before now on =
    undone_so (λ f. DrainCause before now (Err f)) on (λ stem got want. on) (λ path reads. on)
    (λ path had size. on) (λ code. on) s drained fault is

-- ---- a drain that is done, and the lines behind it

pub told_undamaged : (printed : Result (Unit {0}) OutsideFault) → IsNoDamage (told_as printed)
told_undamaged (Ok value) = tt
told_undamaged (Err (site_failed call)) = tt
told_undamaged (Err no_memory) = tt

pub told_last : (printed : Result (Unit {0}) OutsideFault) {P : History → History → Type 0}
    {old mid new : Option History} → Adds old mid P → Adds mid new (LastFailed printed)
    → Adds old new (LastOfDrain (told_as printed))
told_last printed {P = P} p q = adds_then (LastOfDrain (told_as printed)) p q (of printed)
  where
    of : (r : Result (Unit {0}) OutsideFault) (a b h : History) → P a h → LastFailed r b (a ++ h)
        → LastOfDrain (told_as r) (b ++ a) h
    of (Ok value) a b h x y = tt
    of (Err (site_failed call)) a b h x y = λ other. last_then {T = Unit {0}}
        (Err (site_failed call)) b a h y
    of (Err no_memory) a b h x y = tt

pub told_cause : (printed : Result (Unit {0}) OutsideFault) (before mid now : ℕ) → before ≤ mid
    → OutsideCause mid now printed → DrainCause before now (told_as printed)
told_cause (Ok value) before mid now on cause = omega (arith, on, cause)
told_cause (Err (site_failed call)) before mid now on cause =
    let rose = cause.0 in let up = cause.1 in (omega (arith, on, rose, up), omega (arith, on, up))
told_cause (Err no_memory) before mid now on cause = omega (arith, on, cause)

-- from a legal history each step of both obeys the agent's rules
pub told_talks : (s t : State) {who : Who} {lines : List (List ℕ)}
    {printed : Result (Unit {0}) OutsideFault}
    {old mid new : Option History} → who ≡ process s → s.ready ≡ true → t.ready ≡ true → IsSound t
    → t.source ≡ s.source → TalksOn s t old mid → PrintsInTurn who lines printed mid new
    → TalksOn s t old new
told_talks s t {who = who} me ready still sound source drains prints =
    talks_then s t t (record { source = source; ready = still ∙ sym ready }) drains
    (prints_talk t who (process_on who s t me source) sound still prints)
