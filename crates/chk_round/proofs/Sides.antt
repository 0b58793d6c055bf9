-- One of the three of a round acts, and what the others know goes along.
use Rattle.std.proofs.Common.{◌≡◌, ℕ, Bool, true, false, List, [], ◌∷◌, ◌++◌, inl, inr, Option, refl, sym, subst, ap, ◌∙◌}
use Rattle.std.specs.Prelude.{Contains}
use Rattle.chk_site.specs.declared.acts.Role.TheVariants.{Agent, Collector}
use Rattle.chk_site.specs.declared.acts.Who.{Who}
use Rattle.chk_site.specs.Acts.{Starts, deed, same_who}
use Rattle.chk_site.specs.History.{Step, History, Others}
use Rattle.chk_site.specs.Messages.{waiting, waiting_in}
use Rattle.chk_site.specs.Site.{Adds}
use Rattle.chk_site.specs.Runs.{HasStarted, Leads, Owns}
use Rattle.chk_site.proofs.Leads.{leads_as}
use Rattle.chk_site.proofs.Runs.{adds_both}
use Rattle.chk_world.specs.Knowing.{Knows}
use Rattle.chk_world.specs.Mailbox.{IsEmptyFor}
use Rattle.chk_world.specs.Places.{As, IsBy}
use Rattle.chk_world.specs.Rules.{Legal}
use Rattle.chk_world.specs.Sight.{job}
use Rattle.chk_world.specs.Together.{Outside, Together}
use Rattle.chk_world.proofs.AgentKnows.{knows_stays}
use Rattle.chk_world.proofs.Beside.{StaysOver, acts_beside, by_one, others_foreign, owns_as, stay_both, stay_by}
use Rattle.chk_world.proofs.Mailbox.{empty_stays, foreign_apart, quiet_apart}
use Rattle.chk_world.proofs.PlacesStay.{Stays}
use Rattle.chk_sink.specs.Held.{Holds, Matches as SinksMatch}
use Rattle.chk_sink.specs.States.{State as Sinks, process}
use Rattle.chk_sink.proofs.HoldsStay.{holds_stay}
use Rattle.chk_agent.specs.Facts.{Holds as HoldsAgent, Matches as AgentMatches}
use Rattle.chk_agent.specs.Fits.{IsSound}
use Rattle.chk_agent.specs.States.{State as Agents, process as agent_of}
use Rattle.chk_agent.proofs.SettlingTold.{state_grows}
use Rattle.chk_round.specs.Joint.{AreIn, BothAt}
use Rattle.chk_round.specs.Keeping.{SinksKept}
use Rattle.chk_round.proofs.Keeping.{other_over}
use Rattle.chk_round.proofs.KeptInside.{KeepsOver}

-- what the agent knows stays over the steps of others
pub agent_stays : (stamped : List (List ℕ)) (a : Agents) → IsSound a
    → Stays stamped (agent_of a) (λ h. a.ready ≡ true → Knows a.source a.cluster a.saved (HoldsAgent a) h)
agent_stays stamped a sound history step legal f h ready =
    knows_stays stamped a.source sound.source a.cluster a.saved (HoldsAgent a)
    (state_grows stamped a sound) history step legal f (h ready)

-- an empty mailbox stays so over calls that make no message
pub empty_over : (stamped : List (List ℕ)) (started : List Who) (c who : Who) → Contains started c
    → StaysOver stamped started (IsBy who) (IsEmptyFor c)
empty_over stamped started c who one = record {
  theirs = λ history step own legal outside h.
      empty_stays c history step (foreign_apart c step outside.elsewhere (outside.foreign c one).other) h;
  ours = λ history step own legal by h. empty_stays c history step (quiet_apart c step by.quiet) h;
}

-- ---- a start empties the mailbox

waiting_none : (c : Who) (step : Step) (own : same_who c step.act.who ≡ true) → deed step.act ≡ Starts
    → (history : History) → IsEmptyFor c (step ∷ history)
waiting_none c step own starts history =
    ap (λ d. waiting_in d step.act.answer (same_who c step.act.who) (waiting c history)) starts
    ∙ ap (λ b. waiting_in Starts step.act.answer b (waiting c history)) own

empties : (stamped : List (List ℕ)) (started : List Who) (c : Who) → Contains started c → same_who c c ≡ true
    → (added history : History) → HasStarted c added history → Legal stamped (added ++ history)
    → Others (Outside stamped started) added history → Owns (IsBy c) added history
    → IsEmptyFor c (added ++ history)
empties stamped started c one self [] history starts legal others own = absurd starts
empties stamped started c one self (step ∷ added) history (inl (by, is)) legal others own =
    waiting_none c step (ap (same_who c) by ∙ self) is (added ++ history)
empties stamped started c one self (step ∷ added) history (inr more) legal others own =
    go step.own refl (empties stamped started c one self added history more legal.0 others.0 own.0)
  where
    go : (b : Bool) → step.own ≡ b → IsEmptyFor c (added ++ history) → IsEmptyFor c (step ∷ added ++ history)
    go true is h = (empty_over stamped started c c one).ours (added ++ history) step is legal (own.1 is) h
    go false is h = (empty_over stamped started c c one).theirs (added ++ history) step is legal (others.1 is) h

pub start_empties : (stamped : List (List ℕ)) (started acting : List Who) (c : Who) → Contains started c
    → Contains acting c → same_who c c ≡ true → {A B : History → Type 0} → ((h : History) → B h → Legal stamped h)
    → {old new : Option History} → Adds old new (Leads (As stamped c) A B) → Adds old new (HasStarted c)
    → Adds old new (Leads (Together stamped started acting) A (λ h. B h × IsEmptyFor c h))
start_empties stamped started acting c one acts self {A = A} {B = B} legal told starts =
    adds_both (Leads (Together stamped started acting) A (λ h. B h × IsEmptyFor c h)) told starts
    (λ added history x s. record {
      leads = λ others h.
          let end = x.leads (others_foreign stamped started c one added history others) h in
          (end, empties stamped started c one self added history s (legal (added ++ history) end) others x.own);
      own = owns_as (IsBy c) _ (by_one acting c acts) added history x.own;
    })

-- ---- one acts

module _ (stamped : List (List ℕ)) (started acting : List Who) where
  -- the agent acts beside the collector
  pub agent_acts : (s : Sinks) (source : List ℕ)
      → Contains started (process s) → Contains started (record { role = Agent; name = source })
      → Contains acting (record { role = Agent; name = source })
      → {A B : History → Type 0} → ((h : History) → B h → Legal stamped h) → {old new : Option History}
      → Adds old new (Leads (As stamped (record { role = Agent; name = source })) A B)
      → Adds old new (Leads (Together stamped started acting)
      (λ h. A h × (SinksMatch stamped s h × (IsEmptyFor (process s) h × SinksKept s h)))
      (λ h. B h × (SinksMatch stamped s h × (IsEmptyFor (process s) h × SinksKept s h))))
  agent_acts s source c_in a_in a_acts legal told =
      acts_beside stamped started acting (record { role = Agent; name = source }) a_in a_acts
      (λ h. SinksMatch stamped s h × (IsEmptyFor (process s) h × SinksKept s h))
      (stay_both (stay_by stamped started (record { role = Agent; name = source }) (process s) c_in refl (Holds s) (holds_stay stamped s))
      (stay_both (empty_over stamped started (process s) (record { role = Agent; name = source }) c_in)
      (other_over stamped started s c_in (record { role = Agent; name = source }) refl (IsBy (record { role = Agent; name = source }))
      (λ before step own. own.by) (λ before step own. own.running)))) legal told

  -- the collector acts beside the agent
  pub collector_acts : (c : List ℕ) (a : Agents) → IsSound a
      → Contains started (record { role = Collector; name = c }) → Contains acting (record { role = Collector; name = c })
      → Contains started (agent_of a)
      → {A B : History → Type 0} → ((h : History) → B h → Legal stamped h) → {old new : Option History}
      → Adds old new (Leads (As stamped (record { role = Collector; name = c })) A B)
      → Adds old new (Leads (Together stamped started acting)
      (λ h. A h × (AgentMatches stamped a h × IsEmptyFor (record { role = Collector; name = c }) h))
      (λ h. B h × (AgentMatches stamped a h × IsEmptyFor (record { role = Collector; name = c }) h)))
  collector_acts c a sound c_in c_acts a_in legal told =
      acts_beside stamped started acting (record { role = Collector; name = c }) c_in c_acts
      (λ h. AgentMatches stamped a h × IsEmptyFor (record { role = Collector; name = c }) h)
      (stay_both (stay_by stamped started (record { role = Collector; name = c }) (agent_of a) a_in refl
      (λ h. a.ready ≡ true → Knows a.source a.cluster a.saved (HoldsAgent a) h) (agent_stays stamped a sound))
      (empty_over stamped started (record { role = Collector; name = c }) (record { role = Collector; name = c }) c_in)) legal told

  -- the job acts beside both
  pub job_acts : (s : Sinks) (a : Agents) → IsSound a
      → Contains started job → Contains acting job
      → Contains started (process s) → Contains started (agent_of a)
      → {A B : History → Type 0} → ((h : History) → B h → Legal stamped h) → {old new : Option History}
      → Adds old new (Leads (As stamped job) A B)
      → Adds old new (Leads (Together stamped started acting)
      (λ h. A h × (SinksMatch stamped s h × AgentMatches stamped a h))
      (λ h. B h × (SinksMatch stamped s h × AgentMatches stamped a h)))
  job_acts s a sound j_in j_acts c_in a_in legal told =
      acts_beside stamped started acting job j_in j_acts
      (λ h. SinksMatch stamped s h × AgentMatches stamped a h)
      (stay_both (stay_by stamped started job (process s) c_in refl (Holds s) (holds_stay stamped s))
      (stay_by stamped started job (agent_of a) a_in refl
      (λ h. a.ready ≡ true → Knows a.source a.cluster a.saved (HoldsAgent a) h) (agent_stays stamped a sound))) legal told

  -- ---- from both to both

  module _ (s : Sinks) (a : Agents) (run : AreIn started acting s a) where
    pub agent_goes : (b : Agents) → {old new : Option History}
        → Adds old new (Leads (As stamped (agent_of a)) (AgentMatches stamped a) (AgentMatches stamped b))
        → Adds old new (Leads (Together stamped started acting) (BothAt stamped s a) (BothAt stamped s b))
    agent_goes b told =
        leads_as (λ h x. (x.1.0, (x.0, x.1.1))) (λ h x. (x.1.0, (x.0, x.1.1)))
        (agent_acts s a.source run.collector_started run.agent_started run.agent_acts (λ h x. x.legal) told)

    pub collector_goes : IsSound a → (t : Sinks) → t.collector ≡ s.collector → {old new : Option History}
        → Adds old new (Leads (As stamped (process s)) (SinksMatch stamped s) (SinksMatch stamped t))
        → KeepsOver s t old new
        → Adds old new (Leads (Together stamped started acting) (BothAt stamped s a) (BothAt stamped t a))
    collector_goes sound t same told keeps =
        adds_both (Leads (Together stamped started acting) (BothAt stamped s a) (BothAt stamped t a))
        (collector_acts s.collector a sound run.collector_started run.collector_acts run.agent_started
        (λ h x. x.legal) told) (keeps stamped started acting run.collector_started)
        (λ added history x y. record {
          leads = λ others h.
              let end = x.leads others (h.0, (h.1.0, h.1.1.0)) in (
                end.0,
                (
                  end.1.0,
                  (
                    subst (λ c. IsEmptyFor (record { role = Collector; name = c }) (added ++ history)) (sym same) end.1.1,
                    y end.0.legal others x.own (h.0, h.1.1.1),
                  ),
                ),
              );
          own = x.own;
        })
