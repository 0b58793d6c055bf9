use Rattle.std.proofs.Common.{Ok, Err, ap, refl, subst, sym}
use Rattle.chk_ctl_status_rows.specs.declared.agents.AgentSeen.{AgentSeen}
use Rattle.chk_ctl_status_rows.specs.declared.agents.AgentsFault.{AgentsFault}
use Rattle.chk_ctl_status_rows.specs.Agents.{AgentsCause}
use Rattle.chk_ctl_status_rows.proofs.Causes.{cause_as}
use Rattle.chk_ctl_status_rows.proofs.agents.see_logs.Goals as goal

pub returns-in-Ok-clause-told : goal.returns-in-Ok-clause-told
returns-in-Ok-clause-told g c = record {
  ends = Ok c.in-Ok.ends.items;
  seen = rw c.deref.ensures.value at c.in-Ok.ensures.ok;
  is = (refl, refl, refl, refl);
}

pub returns-in-Err-clause-told : goal.returns-in-Err-clause-told
returns-in-Err-clause-told g c = record {
  ends = Err c.in-Err.fault;
  seen = rw c.deref.ensures.value at c.in-Err.ensures.err;
  is = ap (λ (f : AgentsFault). Err f) c.fault_of.ensures;
}

pub returns-in-Err-clause-cause : goal.returns-in-Err-clause-cause
returns-in-Err-clause-cause g c =
    let before = g.S.Site.fault_count c.args.site.now in
    let now = g.S.Site.fault_count c.find_ends.new.site in
    subst (λ (f : AgentsFault). AgentsCause {T = AgentSeen} before now (Err f))
    (sym c.fault_of.ensures)
    (cause_as (Unit {0}) AgentSeen c.in-Err.fault before now c.in-Err.ensures.cause)
