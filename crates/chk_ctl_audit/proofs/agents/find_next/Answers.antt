use Rattle.std.proofs.Common.{ℕ}
use Rattle.chk_ctl_audit.proofs.Steps.{job_as}
use Rattle.chk_ctl_audit.proofs.agents.find_next.Goals as goal

pub returns-in-Ok : goal.returns-in-Ok
returns-in-Ok g c = record {
  told = record {
    further = c.past_source-past.ensures.further;
    one = c.past_source-past.ensures.same;
    from = c.in-Ok.ensures.told;
  };
  only = tt;
  cause = c.in-Ok.ensures.cause;
}

pub returns-in-Err : goal.returns-in-Err
returns-in-Err g c = record {
  told = (
    c.past_source-past.result,
    record {
      further = c.past_source-past.ensures.further;
      one = c.past_source-past.ensures.same;
      from = c.in-Err.ensures.told;
    },
  );
  only = c.in-Err.ensures.only;
  cause = job_as (Unit {0}) ℕ c.in-Err.fault (g.S.Site.fault_count c.args.site.now)
      (g.S.Site.fault_count c.find_agent.new.site) c.in-Err.ensures.cause;
}
