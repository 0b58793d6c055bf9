use Rattle.chk_ctl_status_rows.specs.declared.sinks.Sinks.{Sinks}
use Rattle.chk_ctl_status.specs.declared.store.StoreSeen.{StoreSeen}
use Rattle.chk_ctl_status.specs.Stores.{no_sinks, with_sinks}
use Rattle.chk_ctl_status.proofs.Causes.{finds_as, job_cause, job_read}
use Rattle.chk_ctl_status.proofs.store.find_rest.Goals as goal

pub returns-in-Ok : goal.returns-in-Ok
returns-in-Ok g c = record {
  told = with_sinks c.in-Ok.sinks (finds_as c.requires.job c.in-Ok.ensures.told);
  own = c.in-Ok.ensures.own;
  only = tt;
  cause = c.in-Ok.ensures.cause;
}

pub returns-in-Err : goal.returns-in-Err
returns-in-Err g c =
    rw c.job_of.ensures
    (record {
      told = no_sinks c.in-Err.fault (finds_as c.requires.job c.in-Err.ensures.told);
      own = c.in-Err.ensures.own;
      only = job_read c.in-Err.fault;
      cause = job_cause StoreSeen Sinks c.in-Err.fault (g.S.Site.fault_count c.args.site.now)
          (g.S.Site.fault_count c.find_sinks.new.site) c.in-Err.ensures.cause;
    })
