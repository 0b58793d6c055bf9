use Rattle.std.proofs.Common.{Ok, Err}
use Rattle.chk_cmd_line.specs.Commands.{Join}
use Rattle.chk_cmd_line.specs.Joining.{join_of}
use Rattle.chukwa_run.proofs.JoinRun.{causes, told, join_cause}
use Rattle.chukwa_run.proofs.Unbegun.{unbegun, caused_nothing}
use Rattle.chukwa_run.proofs.Statuses.{join_status}
use Rattle.chukwa_run.proofs.joining.run_joining.Goals as goal

pub returns-in_default-clause-told : goal.returns-in_default-clause-told
returns-in_default-clause-told g c stamped earlier =
    unbegun stamped (Join (join_of c.args.given.now)) earlier (g.S.Site.told c.args.site.now)

pub returns-in_default-clause-causes : goal.returns-in_default-clause-causes
returns-in_default-clause-causes g c =
    caused_nothing (Join (join_of c.args.given.now)) (g.S.Site.told c.args.site.now)

pub returns-in-Ok-run_join-clause-told : goal.returns-in-Ok-run_join-clause-told
returns-in-Ok-run_join-clause-told g c stamped earlier =
    let s = c.in-Ok-run_join.ensures in
    told (join_of c.args.given.now) stamped earlier (Ok c.in-Ok-run_join._report)
    (record {
      told = s.told;
      shown = s.shown;
      own = s.own;
      prints = s.prints;
      runs = s.runs;
      last =
          s.last;
    })

pub returns-in-Ok-run_join-clause-causes : goal.returns-in-Ok-run_join-clause-causes
returns-in-Ok-run_join-clause-causes g c =
    let s = c.in-Ok-run_join.ensures in
    causes (join_of c.args.given.now) (Ok c.in-Ok-run_join._report)
    (record {
      told = s.told;
      shown = s.shown;
      own = s.own;
      prints = s.prints;
      runs = s.runs;
      last =
          s.last;
    })

pub returns-clause-told : goal.returns-clause-told
returns-clause-told g c stamped earlier =
    let s = c.in-Err.ensures in
    rw c.join_ending.ensures
    (told (join_of c.args.given.now) stamped earlier (Err c.in-Err.fault)
    (record {
      told = s.told;
      shown = s.shown;
      own = s.own;
      prints = s.prints;
      runs = s.runs;
      last =
          s.last;
    }))

pub returns-clause-causes : goal.returns-clause-causes
returns-clause-causes g c =
    let s = c.in-Err.ensures in
    rw c.join_ending.ensures
    (causes (join_of c.args.given.now) (Err c.in-Err.fault)
    (record {
      told = s.told;
      shown = s.shown;
      own = s.own;
      prints = s.prints;
      runs = s.runs;
      last =
          s.last;
    }))

pub returns-clause-cause : goal.returns-clause-cause
returns-clause-cause g c =
    rw c.join_ending.ensures
    (join_cause c.in-Err.fault (g.S.Site.fault_count c.args.site.now)
    (g.S.Site.fault_count c.run_join.new.site)
    c.in-Err.ensures.cause)

pub returns-clause-status : goal.returns-clause-status
returns-clause-status g c = rw c.join_ending.ensures
    (join_status (join_of c.args.given.now) c.in-Err.fault)
