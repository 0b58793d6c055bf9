use Rattle.chk_ctl_held.specs.declared.finding.Waiting.{Waiting}
use Rattle.chk_ctl_run.specs.Holding.{found_out, not_found_out}
use Rattle.chk_ctl_run.proofs.Found.{found_own, found_then, cause_then}
use Rattle.chk_ctl_run.proofs.Shown.{job_cause}
use Rattle.chk_ctl_verify.proofs.FolderWords.{archive_folder}
use Rattle.chk_ctl_run.proofs.holding.show_waiting.Goals as goal

pub find_waiting-requires-clause-folder : goal.find_waiting-requires-clause-folder
find_waiting-requires-clause-folder g c = archive_folder

pub returns-in-Ok : goal.returns-in-Ok
returns-in-Ok g c = record {
  told = found_out c.in-Ok.waiting c.in-Ok.ensures.told c.tell_held.ensures.told;
  own = found_then c.in-Ok.ensures.own c.tell_held.ensures.own;
  cause = cause_then c.tell_held.result (g.S.Site.fault_count c.args.site.now)
      (g.S.Site.fault_count c.find_waiting.new.site) (g.S.Site.fault_count c.tell_held.new.site)
      c.in-Ok.ensures.cause c.tell_held.ensures.cause;
}

pub returns-in-Err : goal.returns-in-Err
returns-in-Err g c =
    rw c.outcome_of_job.ensures
    (record {
      told = not_found_out c.in-Err.fault c.in-Err.ensures.told;
      own = found_own c.in-Err.ensures.own;
      cause = job_cause Waiting c.in-Err.fault (g.S.Site.fault_count c.args.site.now)
          (g.S.Site.fault_count c.find_waiting.new.site) c.in-Err.ensures.cause;
    })
