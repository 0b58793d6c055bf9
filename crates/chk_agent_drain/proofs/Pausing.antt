-- The pause of a drain between two polls.
use Rattle.std.proofs.Common.{◌≡◌, ℕ, true, List, [], Option, Some, Result, Ok, Err, subst, refl}
use Rattle.chk_site.specs.declared.acts.Call.TheVariants.{Pause}
use Rattle.chk_site.specs.declared.acts.CallFault.{CallFault}
use Rattle.chk_site.specs.declared.acts.CallFault.TheVariants.{Failed, Missing, Exists, Short, NoMemory}
use Rattle.chk_site.specs.declared.acts.OutsideFault.{OutsideFault}
use Rattle.chk_site.specs.History.{History}
use Rattle.chk_site.specs.Site.{Adds, asked, answered, plain, Calls, Ends, IsDone, MayFail}
use Rattle.chk_site.specs.Runs.{Leads}
use Rattle.chk_site.proofs.Leads.{leads_as}
use Rattle.chk_world.specs.Places.{As}
use Rattle.chk_world.specs.Knowing.{Told}
use Rattle.chk_world.proofs.AgentKnows.{agent_took, agent_ends}
use Rattle.chk_site.specs.declared.acts.Who.{Who}
use Rattle.chk_agent.specs.States.{State, process}
use Rattle.chk_agent.specs.Facts.{Holds, Matches}
use Rattle.chk_agent.specs.Fits.{IsSound}
use Rattle.chk_agent_drain.specs.Drains.{Pauses}
use Rattle.chk_agent.proofs.SettlingTold.{state_grows}
use Rattle.chk_agent.proofs.TurningTold.{talking_as}
use Rattle.chk_agent_drain.specs.Parts.{Talks}

-- a pause is done only where the site said so
done_is : (given : Result (Unit {0}) CallFault) → MayFail given → IsDone given → given ≡ Ok (tt {0})
done_is (Ok value) may done = refl
done_is (Err Failed) may done = absurd done
done_is (Err NoMemory) may done = absurd done
done_is (Err Missing) may done = absurd may
done_is (Err Exists) may done = absurd may
done_is (Err (Short size)) may done = absurd may

module _ (stamped : List (List ℕ)) (s : State) (sound : IsSound s) (ready : s.ready ≡ true) where
  abbrev Known : History → Type 0
  Known h = Told stamped s.source s.cluster s.saved (Holds s) h

  known_of : (h : History) → Matches stamped s h → Known h
  known_of h x = record {
    legal = x.legal;
    may_act = x.may_act;
    alive = λ running. x.alive running ready;
  }

  of_known : (h : History) → Known h → Matches stamped s h
  of_known h x = record {
    legal = x.legal;
    may_act = x.may_act;
    alive = λ running is. x.alive running;
  }

  done_leads : {old new : Option History}
      → Adds old new (Calls (asked (process s) Pause [] 1000 0) (answered plain (Ok (tt {0}))))
      → Adds old new (Leads (As stamped (process s)) (Matches stamped s) (Matches stamped s))
  done_leads call =
      leads_as known_of
      (λ h x. record {
        legal = x.legal;
        may_act = x.may_act;
        alive = λ running is.
            let k = x.alive running in
            record { one_cluster = k.one_cluster; lines_are = k.lines_are; holds = k.holds.one };
      })
      (agent_took stamped s.source sound.source s.cluster s.saved (Holds s)
      (state_grows stamped s sound)
      (asked (process s) Pause [] 1000 0) refl (λ answer files logs. refl) (λ answer files logs. tt)
      (λ h. Unit {0}) plain (Ok (tt {0})) (Some (tt {0})) (λ before answer files logs legal k. tt)
      (λ value. tt)
      (λ before answer files logs took legal k. tt) refl call)

  ended_leads : (given : Result (Unit {0}) CallFault) (fault : OutsideFault)
      → Ends Pause given fault
      → {old new : Option History}
      → Adds old new (Calls (asked (process s) Pause [] 1000 0) (answered plain given))
      → Adds old new (Leads (As stamped (process s)) (Matches stamped s) (Matches stamped s))
  ended_leads given fault ends call =
      leads_as known_of of_known
      (agent_ends stamped s.source sound.source s.cluster s.saved (Holds s)
      (state_grows stamped s sound)
      (asked (process s) Pause [] 1000 0) refl (λ answer files logs. refl) (λ answer files logs. tt)
      plain given fault (λ before answer files logs legal k. tt) ends call)

-- ---- how it ends

module _ (s : State) (sound : IsSound s) (ready : s.ready ≡ true) (who : Who) (is : who ≡ process s)
    (given : Result (Unit {0}) CallFault) {old new : Option History}
    (call : Adds old new (Calls (asked who Pause [] 1000 0) (answered plain given))) where
  by_me : Pauses s given old new
  by_me = subst (λ w. Adds old new (Calls (asked w Pause [] 1000 0) (answered plain given))) is call

  pub paused_talks : MayFail given → IsDone given → Talks s s old new
  paused_talks may done stamped =
      talking_as (process s) stamped
      (done_leads stamped s sound ready
      (subst (λ g. Pauses s g old new) (done_is given may done) by_me))

  pub unpaused_talks : (fault : OutsideFault) → Ends Pause given fault → Talks s s old new
  unpaused_talks fault ends stamped =
      talking_as (process s) stamped (ended_leads stamped s sound ready given fault ends by_me)
