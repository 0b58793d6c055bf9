use Rattle.std.proofs.Common.{refl}
use Rattle.chk_ctl_held.specs.declared.finding.Waiting.{Waiting}
use Rattle.chk_ctl_run.proofs.Shown.{job_cause}
use Rattle.chk_ctl_run.proofs.several.load_store.Goals as goal

pub returns-in-Ok : goal.returns-in-Ok
returns-in-Ok g c = record {
  told = (c.new.ensures.name, rw c.new.ensures.waiting c.in-Ok.ensures.told);
  own = c.in-Ok.ensures.own;
  cause = c.in-Ok.ensures.cause;
}

pub returns-in-Err : goal.returns-in-Err
returns-in-Err g c =
    rw c.outcome_of_job.ensures
    (record {
      told = (c.in-Err.fault, c.in-Err.ensures.told, refl);
      own = c.in-Err.ensures.own;
      cause = job_cause Waiting c.in-Err.fault (g.S.Site.fault_count c.args.site.now)
          (g.S.Site.fault_count c.find_waiting.new.site) c.in-Err.ensures.cause;
    })
