-- The agent asks for the time.
use Rattle.std.proofs.Common.{◌≡◌, ℕ, true, List, [], Option, Some, None, Result, Ok, Err, refl}
use Rattle.chk_site.specs.declared.acts.Call.TheVariants.{Clock}
use Rattle.chk_site.specs.declared.acts.CallFault.{CallFault}
use Rattle.chk_site.specs.declared.acts.CallFault.TheVariants.{Failed, Missing, Exists, Short, NoMemory}
use Rattle.chk_site.specs.declared.acts.OutsideFault.{OutsideFault}
use Rattle.chk_site.specs.declared.acts.OutsideFault.TheVariants.{Outside, NoMemory as no_memory}
use Rattle.chk_site.specs.History.{History}
use Rattle.chk_site.specs.Site.{Adds, asked, answered, sized, Calls, Ends, IsTaken}
use Rattle.chk_site.specs.Runs.{Leads}
use Rattle.chk_site.proofs.Leads.{leads_as}
use Rattle.chk_world.specs.Knowing.{Told}
use Rattle.chk_world.specs.Places.{As}
use Rattle.chk_world.proofs.AgentKnows.{agent_ends, agent_took}
use Rattle.chk_agent.specs.Facts.{Holds, Matches}
use Rattle.chk_agent.specs.Fits.{IsSound}
use Rattle.chk_agent.specs.States.{State, process}
use Rattle.chk_agent.proofs.SettlingTold.{state_grows}

module _ (stamped : List (List ℕ)) (s : State) (sound : IsSound s) (ready : s.ready ≡ true) where
  abbrev Known : History → Type 0
  Known h = Told stamped s.source s.cluster s.saved (Holds s) h

  known_of : (h : History) → Matches stamped s h → Known h
  known_of h x = record { legal = x.legal; may_act = x.may_act; alive = λ running. x.alive running ready }

  of_known : (h : History) → Known h → Matches stamped s h
  of_known h x = record { legal = x.legal; may_act = x.may_act; alive = λ running is. x.alive running }

  took : (given : Result ℕ CallFault) (taken : Option ℕ) {old new : Option History} → IsTaken given taken
      → Adds old new (Calls (asked (process s) Clock [] 0 0) (answered sized given))
      → Adds old new (Leads (As stamped (process s)) (Matches stamped s) (Matches stamped s))
  took given taken is call =
      leads_as known_of
      (λ h x. record {
        legal = x.legal;
        may_act = x.may_act;
        alive = λ running is.
            let k = x.alive running in
            record { one_cluster = k.one_cluster; lines_are = k.lines_are; holds = k.holds.one };
      })
      (agent_took stamped s.source sound.source s.cluster s.saved (Holds s) (state_grows stamped s sound)
      (asked (process s) Clock [] 0 0) refl (λ answer files logs. refl) (λ answer files logs. tt)
      (λ h. Unit {0}) sized given taken (λ before answer files logs legal k. tt) (λ value. tt)
      (λ before answer files logs took legal k. tt) is call)

  ended : (given : Result ℕ CallFault) (fault : OutsideFault) → Ends Clock given fault
      → {old new : Option History}
      → Adds old new (Calls (asked (process s) Clock [] 0 0) (answered sized given))
      → Adds old new (Leads (As stamped (process s)) (Matches stamped s) (Matches stamped s))
  ended given fault ends call =
      leads_as known_of of_known
      (agent_ends stamped s.source sound.source s.cluster s.saved (Holds s) (state_grows stamped s sound)
      (asked (process s) Clock [] 0 0) refl (λ answer files logs. refl) (λ answer files logs. tt)
      sized given fault (λ before answer files logs legal k. tt) ends call)

  -- whatever the site answers, the agent knows what it knew
  pub clock_leaves : (given : Result ℕ CallFault) {old new : Option History}
      → Adds old new (Calls (asked (process s) Clock [] 0 0) (answered sized given))
      → Adds old new (Leads (As stamped (process s)) (Matches stamped s) (Matches stamped s))
  clock_leaves (Ok value) call = took (Ok value) (Some value) refl call
  clock_leaves (Err Failed) call = ended (Err Failed) (Outside Clock) refl call
  clock_leaves (Err NoMemory) call = ended (Err NoMemory) no_memory refl call
  clock_leaves (Err Missing) call = took (Err Missing) None refl call
  clock_leaves (Err Exists) call = took (Err Exists) None refl call
  clock_leaves (Err (Short size)) call = took (Err (Short size)) None refl call
