use Rattle.std.proofs.Common.{◌∙◌, List, Ok, Err, ℕ, subst, sym}
use Rattle.std.proofs.Math.ListN.{drop_of_length-le}
use Rattle.std.proofs.lemmas.Result.{err_from_is_err_and}
use Rattle.chk_ctl_status_rows.specs.Agents.{AgentsCause}
use Rattle.chk_ctl_status_rows.specs.Agents.{ended, none_left, one_more, AddsAgent, SeesAgents}
use Rattle.chk_record_index.proofs.InTurn.{next_of}
use Rattle.chk_ctl_status_rows.proofs.agents.see_each.Goals as goal

pub returns-in_err-add_agent-clause-told : goal.returns-in_err-add_agent-clause-told
returns-in_err-add_agent-clause-told g c =
    let p = err_from_is_err_and c.from_residual.result c.from_residual.ensures.1 in
    let l = c.loop-name in
    let names = c.args.names.now in
    let fault = c.in_err-add_agent.field-0.0 in
    let new = g.S.Site.told c.add_agent.new.site in
    let next =
    next_of names l.name-index c.name-item.result c.loop-name-test.true c.name-item.is in
    rw (p.1, p.2)
    (l.invariant.behind (Err fault) new
    (subst (λ (ns : List (List ℕ)). SeesAgents c.args.who.now l.agents.items ns (Err fault)
    (g.S.Site.told l.site) new) (sym next)
    (ended (subst (λ (t : List ℕ). AddsAgent c.args.who.now l.agents.items t (Err fault)
    (g.S.Site.told l.site) new) c.as_str.ensures.text c.in_err-add_agent.ensures.told))))

pub returns-in_err-add_agent-clause-cause : goal.returns-in_err-add_agent-clause-cause
returns-in_err-add_agent-clause-cause g c =
    let p = err_from_is_err_and c.from_residual.result c.from_residual.ensures.1 in
    rw (p.1, p.2)
    (subst (λ (n : ℕ). AgentsCause {T = Unit {0}} n (g.S.Site.fault_count c.add_agent.new.site)
    (Err c.in_err-add_agent.field-0.0)) c.loop-name.invariant.count
    c.in_err-add_agent.ensures.cause)

pub loop-name-preserved : goal.loop-name-preserved
loop-name-preserved g c =
    let l = c.loop-name in
    let names = c.args.names.now in
    let more = c.add_agent.new.agents.items in
    let mid = g.S.Site.told c.add_agent.new.site in
    let next =
    next_of names l.name-index c.name-item.result c.loop-name-test.true c.name-item.is in
    record {
      count = c.in_ok-add_agent.ensures.cause ∙ l.invariant.count;
      behind = λ result new rest.
          l.invariant.behind result new
          (subst (λ (ns : List (List ℕ)). SeesAgents c.args.who.now l.agents.items ns result
          (g.S.Site.told l.site) new) (sym next)
          (one_more (subst (λ (t : List ℕ). AddsAgent c.args.who.now l.agents.items t (Ok more)
          (g.S.Site.told l.site) mid) c.as_str.ensures.text c.in_ok-add_agent.ensures.told) rest));
    }

pub returns-clause-told : goal.returns-clause-told
returns-clause-told g c =
    let l = c.loop-name in
    let now = g.S.Site.told l.site in
    let all = l.agents.items in
    let none = sym (drop_of_length-le c.args.names.now c.loop-name-test.false) in
    l.invariant.behind (Ok all) now
    (subst (λ (ns : List (List ℕ)). SeesAgents c.args.who.now all ns (Ok all) now now) none
    none_left)
