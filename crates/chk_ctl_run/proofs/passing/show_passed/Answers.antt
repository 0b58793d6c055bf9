use Rattle.chk_ctl_passed.specs.declared.judging.Verdict.{Verdict}
use Rattle.chk_ctl_run.specs.Passing.{not_weighed, weighed}
use Rattle.chk_ctl_run.proofs.Passed.{passed_cause}
use Rattle.chk_ctl_run.proofs.Shown.{job_cause}
use Rattle.chk_ctl_run.proofs.passing.show_passed.Goals as goal

pub returns-in-Ok : goal.returns-in-Ok
returns-in-Ok g c =
    rw c.passed_as.ensures
    (record {
      told = weighed c.in-Ok.verdict c.in-Ok.ensures.told;
      own = c.in-Ok.ensures.own;
      cause = passed_cause c.in-Ok.verdict (g.S.Site.fault_count c.args.site.now)
          (g.S.Site.fault_count c.all_have_passed.new.site) c.in-Ok.ensures.cause;
    })

pub returns-in-Err : goal.returns-in-Err
returns-in-Err g c =
    rw c.outcome_of_job.ensures
    (record {
      told = not_weighed c.in-Err.fault c.in-Err.ensures.told;
      own = c.in-Err.ensures.own;
      cause = job_cause Verdict c.in-Err.fault (g.S.Site.fault_count c.args.site.now)
          (g.S.Site.fault_count c.all_have_passed.new.site) c.in-Err.ensures.cause;
    })
