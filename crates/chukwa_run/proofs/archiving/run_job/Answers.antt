use Rattle.std.proofs.Common.{Ok, Err}
use Rattle.chk_cmd_line.specs.Commands.{Archive}
use Rattle.chukwa_run.proofs.ArchiveRun.{causes, told}
use Rattle.chukwa_run.proofs.Unbegun.{unbegun, caused_nothing}
use Rattle.chukwa_run.proofs.Statuses.{job_status}
use Rattle.chukwa_run.proofs.archiving.run_job.Goals as goal

pub returns-in_default-clause-told : goal.returns-in_default-clause-told
returns-in_default-clause-told g c stamped earlier = unbegun stamped Archive earlier (g.S.Site.told c.args.site.now)

pub returns-in_default-clause-causes : goal.returns-in_default-clause-causes
returns-in_default-clause-causes g c = caused_nothing Archive (g.S.Site.told c.args.site.now)

pub returns-in-Ok-run_archive-clause-told : goal.returns-in-Ok-run_archive-clause-told
returns-in-Ok-run_archive-clause-told g c stamped earlier =
    let s = c.in-Ok-run_archive.ensures in
    told stamped earlier (Ok c.in-Ok-run_archive._report)
    (record { told = s.told; own = s.own; once = s.once; prints = s.prints; runs = s.runs; last = s.last; shown = s.shown })

pub returns-in-Ok-run_archive-clause-causes : goal.returns-in-Ok-run_archive-clause-causes
returns-in-Ok-run_archive-clause-causes g c =
    let s = c.in-Ok-run_archive.ensures in
    causes (Ok c.in-Ok-run_archive._report)
    (record { told = s.told; own = s.own; once = s.once; prints = s.prints; runs = s.runs; last = s.last; shown = s.shown })

pub returns-clause-told : goal.returns-clause-told
returns-clause-told g c stamped earlier =
    let s = c.in-Err.ensures in
    rw c.ending_of.ensures
    (told stamped earlier (Err c.in-Err.fault)
    (record { told = s.told; own = s.own; once = s.once; prints = s.prints; runs = s.runs; last = s.last; shown = s.shown }))

pub returns-clause-causes : goal.returns-clause-causes
returns-clause-causes g c =
    let s = c.in-Err.ensures in
    rw c.ending_of.ensures
    (causes (Err c.in-Err.fault)
    (record { told = s.told; own = s.own; once = s.once; prints = s.prints; runs = s.runs; last = s.last; shown = s.shown }))

pub returns-clause-status : goal.returns-clause-status
returns-clause-status g c = rw c.ending_of.ensures (job_status c.in-Err.fault)
