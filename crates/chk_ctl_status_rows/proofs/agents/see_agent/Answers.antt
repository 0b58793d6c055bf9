use Rattle.std.proofs.Common.{Ok, Err, ap, refl, subst, sym}
use Rattle.chk_checkpoint.specs.declared.Checkpoint.{Checkpoint}
use Rattle.chk_ctl_status_rows.specs.declared.agents.AgentSeen.{AgentSeen}
use Rattle.chk_ctl_status_rows.specs.declared.agents.AgentsFault.{AgentsFault}
use Rattle.chk_ctl_status_rows.specs.Agents.{AgentsCause}
use Rattle.chk_ctl_status_rows.proofs.Causes.{agents_after, cause_in}
use Rattle.chk_ctl_status_rows.proofs.agents.see_agent.Goals as goal

pub returns-in-Ok-clause-told : goal.returns-in-Ok-clause-told
returns-in-Ok-clause-told g c = record {
  given = Ok c.in-Ok.check;
  middle = g.S.Site.told c.load_checkpoint.new.site;
  loaded = c.in-Ok.ensures.whole;
  reads = c.in-Ok.ensures.reads;
  checked = c.see_logs.ensures.told;
}

pub returns-in-Ok-clause-cause : goal.returns-in-Ok-clause-cause
returns-in-Ok-clause-cause g c =
    agents_after c.see_logs.result (g.S.Site.fault_count c.args.site.now)
    (g.S.Site.fault_count c.load_checkpoint.new.site)
    (g.S.Site.fault_count c.see_logs.new.site) c.in-Ok.ensures.cause c.see_logs.ensures.cause

pub returns-in-Err-clause-told : goal.returns-in-Err-clause-told
returns-in-Err-clause-told g c = record {
  given = Err c.in-Err.fault;
  middle = g.S.Site.told c.load_checkpoint.new.site;
  loaded = c.in-Err.ensures.whole;
  reads = c.in-Err.ensures.reads;
  checked = (refl, ap (λ (f : AgentsFault). Err f) c.check_fault.ensures);
}

pub returns-in-Err-clause-cause : goal.returns-in-Err-clause-cause
returns-in-Err-clause-cause g c =
    let before = g.S.Site.fault_count c.args.site.now in
    let now = g.S.Site.fault_count c.load_checkpoint.new.site in
    subst (λ (f : AgentsFault). AgentsCause {T = AgentSeen} before now (Err f))
    (sym c.check_fault.ensures)
    (cause_in Checkpoint AgentSeen c.args.agent.name c.in-Err.fault before now
    c.in-Err.ensures.cause)
