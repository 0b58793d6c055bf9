use Rattle.std.proofs.Common.{Err, subst, sym}
use Rattle.chk_ctl_status_rows.specs.declared.agents.AgentsFault.{AgentsFault}
use Rattle.chk_ctl_status_rows.specs.Agents.{unlisted, AgentsCause, FindsAgents}
use Rattle.chk_ctl_status_rows.proofs.Causes.{agents_after, cause_as}
use Rattle.chk_ctl_status_rows.proofs.Finds.{found_err, found_ok, found_own}
use Rattle.chk_ctl_status_rows.proofs.Own.{finds_own}
use Rattle.chk_ctl_status_rows.proofs.agents.find_agents.Goals as goal

pub returns-in-Ok : goal.returns-in-Ok
returns-in-Ok g c =
    let result = c.see_agents.result in
    let mid = g.S.Site.told c.list_agents.new.site in
    let new = g.S.Site.told c.see_agents.new.site in
    let ok = found_ok (λ a. a.items) result mid new c.in-Ok.ensures.ok
    (rw c.as_slice.ensures.value at c.see_agents.ensures.ok) in
    let err = found_err result mid new c.in-Ok.ensures.ok
    (rw c.as_slice.ensures.value at c.see_agents.ensures.err) in
    record {
      ok = ok;
      err = err;
      own = found_own (λ a. a.items) result c.requires.job ok err;
      cause =
          agents_after result (g.S.Site.fault_count c.args.site.now)
          (g.S.Site.fault_count c.list_agents.new.site)
          (g.S.Site.fault_count c.see_agents.new.site) c.in-Ok.ensures.cause
          c.see_agents.ensures.cause;
    }

pub returns-in-Err : goal.returns-in-Err
returns-in-Err g c =
    let old = g.S.Site.told c.args.site.now in
    let new = g.S.Site.told c.list_agents.new.site in
    let before = g.S.Site.fault_count c.args.site.now in
    let now = g.S.Site.fault_count c.list_agents.new.site in
    let err = subst (λ (f : AgentsFault). FindsAgents c.args.who.now (Err f) old new)
    (sym c.fault_of.ensures) (unlisted c.in-Err.ensures.err) in
    record {
      ok = tt;
      err = err;
      own = finds_own c.requires.job err;
      cause =
          subst (λ (f : AgentsFault). AgentsCause {T = Unit {0}} before now (Err f))
          (sym c.fault_of.ensures)
          (cause_as (Unit {0}) (Unit {0}) c.in-Err.fault before now c.in-Err.ensures.cause);
    }
