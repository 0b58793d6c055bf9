use Rattle.chk_ctl_audit.specs.declared.audits.Compared.{Compared}
use Rattle.chk_ctl_run.specs.Auditing.{audited, not_audited}
use Rattle.chk_ctl_run.proofs.Audited.{audited_cause}
use Rattle.chk_ctl_run.proofs.Shown.{job_cause}
use Rattle.chk_ctl_run.proofs.auditing.audit_found.Goals as goal

pub returns-in-Ok : goal.returns-in-Ok
returns-in-Ok g c =
    rw c.audited_as.ensures
    (record {
      told = audited c.in-Ok.compared c.in-Ok.ensures.told;
      own = c.in-Ok.ensures.own;
      cause = audited_cause c.in-Ok.compared (g.S.Site.fault_count c.args.site.now)
          (g.S.Site.fault_count c.audit.new.site) c.in-Ok.ensures.cause;
    })

pub returns-in-Err : goal.returns-in-Err
returns-in-Err g c =
    rw c.outcome_of_job.ensures
    (record {
      told = not_audited c.in-Err.fault c.in-Err.ensures.told;
      own = c.in-Err.ensures.own;
      cause = job_cause Compared c.in-Err.fault (g.S.Site.fault_count c.args.site.now)
          (g.S.Site.fault_count c.audit.new.site) c.in-Err.ensures.cause;
    })
