use Rattle.std.proofs.Common.{◌≡◌, [], Option, Result, Ok, Err, sym, subst, ap, ◌∙◌, arith}
use Rattle.std.specs.Prelude.{IfOk}
use Rattle.std.proofs.lemmas.Result.{err_from_is_err_and, IfOk-weaker}
use Rattle.chk_site.specs.declared.acts.Who.{Who}
use Rattle.chk_site.specs.Site.{Adds}
use Rattle.chk_site.specs.Runs.{HasStarted, Leads}
use Rattle.chk_site.proofs.Leads.{leads_as, leads_then}
use Rattle.chk_world.specs.Places.{As}
use Rattle.chk_world.specs.Rules.{Legal}
use Rattle.chk_site.specs.History.{History}
use Rattle.chk_sink.specs.Starts.{IsFresh as AreFreshSinks, Started as SinksStarted}
use Rattle.chk_sink.specs.States.{State as Sinks}
use Rattle.chk_agent.specs.Starts.{FindsCheckpoint, IsFresh as IsFreshAgent, Started as AgentStarted, StartsAndReads}
use Rattle.chk_agent.specs.States.{State as Agents}
use Rattle.chk_round.specs.declared.faults.RoundFault.{RoundFault}
use Rattle.chk_round.specs.declared.starting.Pair.{Pair}
use Rattle.chk_round.specs.Begun.{AgentBegan}
use Rattle.chk_round.specs.Faults.{FailsLast, RoundCause}
use Rattle.chk_round.specs.Starts.{AreFresh, ClockGave, EndsWithClock}
use Rattle.chk_round.specs.Timed.{moment_of, pair_at}
use Rattle.chk_round.proofs.Ends.{agent_cause, agent_last, last_late, later_cause, nothing_then, sinks_cause, sinks_last}
use Rattle.chk_round.proofs.Meeting.{agent_met, agent_unmet, clock_ends, ends_with_clock, sinks_met, sinks_unmet}
use Rattle.chk_round.proofs.NoRead.{agent_plain, begun_shown, collector_shown, only_plain, only_shown, sinks_plain}
use Rattle.chk_round.proofs.Acts.{agent_begins, begins_then, collector_begins, time_begins}
use Rattle.chk_sink.specs.Faults.{ended_by}
use Rattle.chk_sink.specs.Works.{OfStart}
use Rattle.chk_world.specs.Works.{Works}
use Rattle.chk_world.proofs.Working.{works_own}
use Rattle.chk_round.proofs.starting.start_pair.Goals as goal

-- the last call, whatever the result
last_then : {T : Type 0} (r : Result T RoundFault) {P : History → History → Type 0}
    {old mid new : Option History} → Adds old mid P → Adds mid new (FailsLast r) → Adds old new (FailsLast r)
last_then (Ok value) p q = nothing_then p q
last_then {T = T} (Err fault) p q = last_late T fault p q

-- what is known of a pair at its time
gave_pair : (s : Sinks) (a : Agents) (who : Who) (old new : Option History)
    (r : Result Pair RoundFault)
    → IfOk r (λ pair. pair ≡ pair_at s a pair.now) → ClockGave who (moment_of r) old new
    → IfOk r (λ pair. (pair ≡ pair_at s a pair.now) × ClockGave who (Ok pair.now) old new)
gave_pair s a who old new (Ok pair) is gave = (is, gave)
gave_pair s a who old new (Err fault) is gave = tt

pub returns-in_err-collector-clause-told : goal.returns-in_err-collector-clause-told
returns-in_err-collector-clause-told g c stamped started acting run =
    let p = err_from_is_err_and c.from_residual.result c.from_residual.ensures.1 in
    rw (p.1, p.2)
    (sinks_unmet stamped c.args.reading.now.name started acting run c.in_err-collector.field-0.0 c.in_err-collector.ensures.spent
    (subst (λ w. Adds (g.S.Site.told c.args.site.now) (g.S.Site.told c.start.new.site)
    (Leads (As stamped w) (Legal stamped) (SinksStarted stamped w (Err c.in_err-collector.field-0.0)))) c.requires.collector
    (c.in_err-collector.ensures.told stamped)))

pub returns-in_err-agent-clause-told : goal.returns-in_err-agent-clause-told
returns-in_err-agent-clause-told g c stamped started acting run =
    let p = err_from_is_err_and c.from_residual-in_err-agent.result c.from_residual-in_err-agent.ensures.1 in
    let c_is = c.in_ok-collector.ensures.fresh.collector ∙ ap (λ (w : Who). w.name) c.requires.collector in
    rw (p.1, p.2)
    (leads_then
    (sinks_met stamped c.args.reading.now.name started acting run c.in_ok-collector.collector c_is
    c.in_ok-collector.ensures.fresh.number c.in_ok-collector.ensures.fresh.abandoned
    (subst (λ w. Adds (g.S.Site.told c.args.site.now) (g.S.Site.told c.start.new.site)
    (Leads (As stamped w) (Legal stamped) (SinksStarted stamped w (Ok c.in_ok-collector.collector)))) c.requires.collector
    (c.in_ok-collector.ensures.told stamped))
    (subst (λ w. Adds (g.S.Site.told c.args.site.now) (g.S.Site.told c.start.new.site) (HasStarted w)) c.requires.collector
    c.in_ok-collector.ensures.starts))
    (agent_unmet stamped c.args.reading.now.name started acting run c.in_ok-collector.collector c_is c.in_err-agent.field-0.0
    (subst (λ w. Adds (g.S.Site.told c.start.new.site) (g.S.Site.told c.start-2.new.site)
    (Leads (As stamped w) (Legal stamped) (AgentStarted stamped w (Err c.in_err-agent.field-0.0)))) c.requires.agent_is
    (c.in_err-agent.ensures.told stamped))))

pub returns-in_err-agent-clause-last : goal.returns-in_err-agent-clause-last
returns-in_err-agent-clause-last g c =
    let p = err_from_is_err_and c.from_residual-in_err-agent.result c.from_residual-in_err-agent.ensures.1 in
    subst (λ (r : Result Pair RoundFault). Adds (g.S.Site.told c.args.site.now) (g.S.Site.told c.start-2.new.site) (FailsLast r))
    (sym (p.1 ∙ ap Err p.2))
    (last_late Pair _ (c.in_ok-collector.ensures.told []) (agent_last Pair Agents c.in_err-agent.field-0.0 c.in_err-agent.ensures.last))

pub returns-clause-told : goal.returns-clause-told
returns-clause-told g c stamped started acting run =
    let c_is = c.in_ok-collector.ensures.fresh.collector ∙ ap (λ (w : Who). w.name) c.requires.collector in
    leads_then (leads_then
    (sinks_met stamped c.args.reading.now.name started acting run c.in_ok-collector.collector c_is
    c.in_ok-collector.ensures.fresh.number c.in_ok-collector.ensures.fresh.abandoned
    (subst (λ w. Adds (g.S.Site.told c.args.site.now) (g.S.Site.told c.start.new.site)
    (Leads (As stamped w) (Legal stamped) (SinksStarted stamped w (Ok c.in_ok-collector.collector)))) c.requires.collector
    (c.in_ok-collector.ensures.told stamped))
    (subst (λ w. Adds (g.S.Site.told c.args.site.now) (g.S.Site.told c.start.new.site) (HasStarted w)) c.requires.collector
    c.in_ok-collector.ensures.starts))
    (agent_met stamped c.args.reading.now.name started acting run c.in_ok-collector.collector c_is c.in_ok-agent.agent
    (subst (λ w. Adds (g.S.Site.told c.start.new.site) (g.S.Site.told c.start-2.new.site)
    (Leads (As stamped w) (Legal stamped) (AgentStarted stamped w (Ok c.in_ok-agent.agent)))) c.requires.agent_is
    (c.in_ok-agent.ensures.told stamped))))
    (clock_ends stamped c.args.reading.now.name started acting run c.in_ok-collector.collector c_is c.in_ok-agent.agent
    c.in_ok-agent.ensures.fresh.source c.ready-sound.ensures.sound c.in_ok-agent.ensures.fresh.ready c.timed.result
    c.timed.ensures.same
    (subst (λ w. ClockGave w (moment_of c.timed.result) (g.S.Site.told c.start-2.new.site)
    (g.S.Site.told c.timed.new.site))
    c.requires.agent_is c.timed.ensures.gave))

pub returns-clause-began : goal.returns-clause-began
returns-clause-began g c =
    let old = g.S.Site.told c.args.site.now in
    let new = g.S.Site.told c.timed.new.site in
    IfOk-weaker c.timed.result _
    (λ (p : Pair). AgentBegan c.args.reading.now c.args.ring c.args.rules p.agent old new)
    (λ p is. subst
    (λ (q : Pair). AgentBegan c.args.reading.now c.args.ring c.args.rules q.agent old new)
    (sym is.0)
    (record {
      mid = g.S.Site.told c.start.new.site;
      next = g.S.Site.told c.start-2.new.site;
      collector = works_own
          (subst (λ w. Works w (OfStart w) (ended_by c.start.result) old
          (g.S.Site.told c.start.new.site))
          c.requires.collector c.start.ensures.own);
      collector_started = subst (λ w. Adds old (g.S.Site.told c.start.new.site) (HasStarted w))
          c.requires.collector c.in_ok-collector.ensures.starts;
      legal = λ stamped. leads_as (λ h x. x) (λ h x. x.legal)
          (subst (λ w. Adds old (g.S.Site.told c.start.new.site)
          (Leads (As stamped w) (Legal stamped)
          (SinksStarted stamped w (Ok c.in_ok-collector.collector))))
          c.requires.collector (c.in_ok-collector.ensures.told stamped));
      fresh = c.in_ok-agent.ensures.fresh;
      started = c.in_ok-agent.ensures.starts;
      acts = c.in_ok-agent.ensures.acts;
      finds = c.in_ok-agent.ensures.whole;
      told = c.in_ok-agent.ensures.told;
      now = p.now;
      timed = is.1;
    }))
    (gave_pair _ _ _ _ _ c.timed.result c.timed.ensures.same c.timed.ensures.gave)

pub returns-clause-clock : goal.returns-clause-clock
returns-clause-clock g c =
    IfOk-weaker c.timed.result _
    (λ (p : Pair). Adds (g.S.Site.told c.args.site.now) (g.S.Site.told c.timed.new.site)
    (EndsWithClock c.args.reading.now p.now))
    (λ p is. ends_with_clock c.args.reading.now p.now
    (c.in_ok-collector.ensures.told []) (c.in_ok-agent.ensures.told []) is.1)
    (gave_pair _ _ _ _ _ c.timed.result c.timed.ensures.same c.timed.ensures.gave)

pub returns-clause-last : goal.returns-clause-last
returns-clause-last g c =
    last_then c.timed.result (c.in_ok-collector.ensures.told [])
    (last_then c.timed.result (c.in_ok-agent.ensures.told []) c.timed.ensures.last)

pub returns-in_err-collector-clause-only : goal.returns-in_err-collector-clause-only
returns-in_err-collector-clause-only g c =
    let p = err_from_is_err_and c.from_residual.result c.from_residual.ensures.1 in
    rw (p.1, p.2) (sinks_plain c.in_err-collector.field-0.0)

pub returns-in_err-agent-clause-only : goal.returns-in_err-agent-clause-only
returns-in_err-agent-clause-only g c =
    let p = err_from_is_err_and c.from_residual-in_err-agent.result c.from_residual-in_err-agent.ensures.1 in
    rw (p.1, p.2) (agent_plain c.in_err-agent.field-0.0)

pub returns-in_err-collector-clause-acts : goal.returns-in_err-collector-clause-acts
returns-in_err-collector-clause-acts g c =
    collector_begins c.args.reading.now.name
    (subst (λ w. Works w (OfStart w) (ended_by c.start.result) (g.S.Site.told c.args.site.now) (g.S.Site.told c.start.new.site))
    c.requires.collector c.start.ensures.own)

pub returns-in_err-agent-clause-acts : goal.returns-in_err-agent-clause-acts
returns-in_err-agent-clause-acts g c =
    begins_then c.args.reading.now.name (collector_begins c.args.reading.now.name
    (subst (λ w. Works w (OfStart w) (ended_by c.start.result) (g.S.Site.told c.args.site.now) (g.S.Site.told c.start.new.site))
    c.requires.collector c.start.ensures.own))
    (agent_begins c.args.reading.now.name
    (subst (λ w. Adds (g.S.Site.told c.start.new.site) (g.S.Site.told c.start-2.new.site)
    (Leads (As [] w) (Legal []) (AgentStarted [] w (Err c.in_err-agent.field-0.0)))) c.requires.agent_is (c.in_err-agent.ensures.told [])))

pub returns-clause-acts : goal.returns-clause-acts
returns-clause-acts g c =
    begins_then c.args.reading.now.name
    (begins_then c.args.reading.now.name (collector_begins c.args.reading.now.name
    (subst (λ w. Works w (OfStart w) (ended_by c.start.result) (g.S.Site.told c.args.site.now) (g.S.Site.told c.start.new.site))
    c.requires.collector c.start.ensures.own))
    (agent_begins c.args.reading.now.name
    (subst (λ w. Adds (g.S.Site.told c.start.new.site) (g.S.Site.told c.start-2.new.site)
    (Leads (As [] w) (Legal []) (AgentStarted [] w (Ok c.in_ok-agent.agent)))) c.requires.agent_is (c.in_ok-agent.ensures.told []))))
    (time_begins c.args.reading.now.name (moment_of c.timed.result)
    (subst (λ w. ClockGave w (moment_of c.timed.result) (g.S.Site.told c.start-2.new.site)
    (g.S.Site.told c.timed.new.site))
    c.requires.agent_is c.timed.ensures.gave))

pub returns-clause-fresh : goal.returns-clause-fresh
returns-clause-fresh g c =
    IfOk-weaker c.timed.result _
    (λ (p : Pair). AreFresh c.args.reading.now.name c.args.ring c.args.rules p.collector p.agent)
    (λ p is. subst (λ (q : Pair). AreFresh c.args.reading.now.name c.args.ring c.args.rules
    q.collector q.agent) (sym is)
    (record {
      sinks = subst (λ w. AreFreshSinks w 300000 c.in_ok-collector.collector) c.requires.collector
          c.in_ok-collector.ensures.fresh;
      agent_is = subst (λ w. IsFreshAgent w c.args.ring c.args.rules c.in_ok-agent.agent)
          c.requires.agent_is c.in_ok-agent.ensures.fresh;
    }))
    c.timed.ensures.same

pub returns-clause-only : goal.returns-clause-only
returns-clause-only g c = only_plain c.timed.result c.timed.ensures.only

pub returns-clause-cause : goal.returns-clause-cause
returns-clause-cause g c =
    let one = c.in_ok-collector.ensures.cause in
    let two = c.in_ok-agent.ensures.cause in
    later_cause c.timed.result _ _ _ (omega (arith, one, two)) c.timed.ensures.cause

pub returns-in_err-collector-clause-cause : goal.returns-in_err-collector-clause-cause
returns-in_err-collector-clause-cause g c =
    let p = err_from_is_err_and c.from_residual.result c.from_residual.ensures.1 in
    subst (λ (r : Result Pair RoundFault). RoundCause (g.S.Site.fault_count c.args.site.now)
    (g.S.Site.fault_count c.start.new.site) r) (sym (p.1 ∙ ap Err p.2))
    (sinks_cause Pair Sinks (g.S.Site.fault_count c.args.site.now)
    (g.S.Site.fault_count c.args.site.now) _
    c.in_err-collector.field-0.0 (omega arith) c.in_err-collector.ensures.cause)

pub returns-in_err-collector-clause-last : goal.returns-in_err-collector-clause-last
returns-in_err-collector-clause-last g c =
    let p = err_from_is_err_and c.from_residual.result c.from_residual.ensures.1 in
    subst (λ (r : Result Pair RoundFault). Adds (g.S.Site.told c.args.site.now)
    (g.S.Site.told c.start.new.site) (FailsLast r))
    (sym (p.1 ∙ ap Err p.2))
    (sinks_last Pair Sinks c.in_err-collector.field-0.0 c.in_err-collector.ensures.last)

pub returns-in_err-agent-clause-cause : goal.returns-in_err-agent-clause-cause
returns-in_err-agent-clause-cause g c =
    let p = err_from_is_err_and c.from_residual-in_err-agent.result c.from_residual-in_err-agent.ensures.1 in
    subst (λ (r : Result Pair RoundFault). RoundCause (g.S.Site.fault_count c.args.site.now)
    (g.S.Site.fault_count c.start-2.new.site) r) (sym (p.1 ∙ ap Err p.2))
    (agent_cause Pair Agents (g.S.Site.fault_count c.args.site.now)
    (g.S.Site.fault_count c.start.new.site) _ c.in_err-agent.field-0.0
    (let one = c.in_ok-collector.ensures.cause in omega (arith, one)) c.in_err-agent.ensures.cause)

pub returns-in_err-collector-clause-shown : goal.returns-in_err-collector-clause-shown
returns-in_err-collector-clause-shown g c =
    let p = err_from_is_err_and c.from_residual.result c.from_residual.ensures.1 in
    rw (p.1, p.2)
    (collector_shown Pair c.args.reading.now.name c.in_err-collector.field-0.0
    (subst (λ w. Works w (OfStart w) (ended_by {T = Sinks} (Err c.in_err-collector.field-0.0))
    (g.S.Site.told c.args.site.now) (g.S.Site.told c.start.new.site)) c.requires.collector
    c.in_err-collector.ensures.own)
    c.in_err-collector.ensures.damaged c.in_err-collector.ensures.spent_exactly)

pub returns-in_err-agent-clause-shown : goal.returns-in_err-agent-clause-shown
returns-in_err-agent-clause-shown g c =
    let p = err_from_is_err_and c.from_residual-in_err-agent.result c.from_residual-in_err-agent.ensures.1 in
    let mid = g.S.Site.told c.start.new.site in
    let new = g.S.Site.told c.start-2.new.site in
    rw (p.1, p.2)
    (begun_shown Pair c.args.reading.now.name c.in_err-agent.field-0.0
    (c.in_ok-collector.ensures.told [])
    (subst (λ w. StartsAndReads {T = Agents} w (Err c.in_err-agent.field-0.0) mid new)
    c.requires.agent_is c.in_err-agent.ensures.acts)
    (subst (λ w. FindsCheckpoint {T = Agents} (λ s. s.saved) w (Err c.in_err-agent.field-0.0) mid new)
    c.requires.agent_is c.in_err-agent.ensures.whole))

pub returns-clause-shown : goal.returns-clause-shown
returns-clause-shown g c =
    only_shown Pair c.args.reading.now.name c.timed.result c.timed.ensures.only
    (g.S.Site.told c.args.site.now) (g.S.Site.told c.timed.new.site)
