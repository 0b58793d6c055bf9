use Rattle.std.proofs.Common.{Ok, Err}
use Rattle.chk_cmd_line.specs.Commands.{Subscribe}
use Rattle.chk_cmd_line.specs.Subscribing.{subscribe_of}
use Rattle.chukwa_run.proofs.WatchRun.{given, causes, told, watch_status}
use Rattle.chukwa_run.proofs.Unbegun.{unbegun, caused_nothing}
use Rattle.chukwa_run.proofs.subscribing.run_subscribe.Goals as goal

pub returns-in_default-clause-told : goal.returns-in_default-clause-told
returns-in_default-clause-told g c stamped earlier =
    unbegun stamped (Subscribe (subscribe_of c.args.given.now)) earlier (g.S.Site.told c.args.site.now)

pub returns-in_default-clause-causes : goal.returns-in_default-clause-causes
returns-in_default-clause-causes g c =
    caused_nothing (Subscribe (subscribe_of c.args.given.now)) (g.S.Site.told c.args.site.now)

pub returns-in-Ok-subscribe-clause-told : goal.returns-in-Ok-subscribe-clause-told
returns-in-Ok-subscribe-clause-told g c stamped earlier =
    let w = subscribe_of c.args.given.now in
    let s = c.in-Ok-subscribe.ensures in
    told w stamped earlier (Ok tt)
    (given w (Ok tt) c.in-Ok.setting c.in-Ok.ensures
    (record { ran = s.ran; legal = s.legal; once = s.once; last = s.last }))

pub returns-in-Ok-subscribe-clause-causes : goal.returns-in-Ok-subscribe-clause-causes
returns-in-Ok-subscribe-clause-causes g c =
    let w = subscribe_of c.args.given.now in
    let s = c.in-Ok-subscribe.ensures in
    causes w (Ok tt)
    (given w (Ok tt) c.in-Ok.setting c.in-Ok.ensures
    (record { ran = s.ran; legal = s.legal; once = s.once; last = s.last }))

pub returns-clause-told : goal.returns-clause-told
returns-clause-told g c stamped earlier =
    let w = subscribe_of c.args.given.now in
    let s = c.in-Err.ensures in
    rw c.ending_of.ensures
    (told w stamped earlier (Err c.in-Err.fault)
    (given w (Err c.in-Err.fault) c.in-Ok.setting c.in-Ok.ensures
    (record { ran = s.ran; legal = s.legal; once = s.once; last = s.last })))

pub returns-clause-causes : goal.returns-clause-causes
returns-clause-causes g c =
    let w = subscribe_of c.args.given.now in
    let s = c.in-Err.ensures in
    rw c.ending_of.ensures
    (causes w (Err c.in-Err.fault)
    (given w (Err c.in-Err.fault) c.in-Ok.setting c.in-Ok.ensures
    (record { ran = s.ran; legal = s.legal; once = s.once; last = s.last })))

pub returns-clause-status : goal.returns-clause-status
returns-clause-status g c = rw c.ending_of.ensures (watch_status (subscribe_of c.args.given.now) c.in-Err.fault)
