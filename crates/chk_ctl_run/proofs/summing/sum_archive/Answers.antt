use Rattle.chk_ctl_sum.specs.declared.sums.Sums.{Sums}
use Rattle.chk_ctl_run.specs.Summing.{summed, not_summed}
use Rattle.chk_ctl_run.proofs.Found.{found_own, found_then, cause_then}
use Rattle.chk_ctl_run.proofs.Shown.{job_cause}
use Rattle.chk_ctl_verify.proofs.FolderWords.{archive_folder}
use Rattle.chk_ctl_run.proofs.summing.sum_archive.Goals as goal

pub sum-requires-clause-folder : goal.sum-requires-clause-folder
sum-requires-clause-folder g c = archive_folder

pub returns-in-Ok : goal.returns-in-Ok
returns-in-Ok g c = record {
  told = summed c.in-Ok.sums c.in-Ok.ensures.told c.tell_sums.ensures.told;
  own = found_then c.in-Ok.ensures.own c.tell_sums.ensures.own;
  cause = cause_then c.tell_sums.result (g.S.Site.fault_count c.args.site.now)
      (g.S.Site.fault_count c.sum.new.site) (g.S.Site.fault_count c.tell_sums.new.site)
      c.in-Ok.ensures.cause c.tell_sums.ensures.cause;
}

pub returns-in-Err : goal.returns-in-Err
returns-in-Err g c =
    rw c.outcome_of_job.ensures
    (record {
      told = not_summed c.in-Err.fault c.in-Err.ensures.told;
      own = found_own c.in-Err.ensures.own;
      cause = job_cause Sums c.in-Err.fault (g.S.Site.fault_count c.args.site.now)
          (g.S.Site.fault_count c.sum.new.site) c.in-Err.ensures.cause;
    })
