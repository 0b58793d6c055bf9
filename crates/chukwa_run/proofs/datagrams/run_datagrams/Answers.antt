use Rattle.std.proofs.Common.{Ok, Err}
use Rattle.chk_cmd_line.specs.Commands.{Udp}
use Rattle.chk_cmd_line.specs.Datagrams.{udp_of}
use Rattle.chukwa_run.proofs.DatagramRun.{given, causes, told, udp_status}
use Rattle.chukwa_run.proofs.Unbegun.{unbegun, caused_nothing}
use Rattle.chukwa_run.proofs.datagrams.run_datagrams.Goals as goal

pub returns-in_default-clause-told : goal.returns-in_default-clause-told
returns-in_default-clause-told g c stamped earlier =
    unbegun stamped (Udp (udp_of c.args.given.now)) earlier (g.S.Site.told c.args.site.now)

pub returns-in_default-clause-causes : goal.returns-in_default-clause-causes
returns-in_default-clause-causes g c = caused_nothing (Udp (udp_of c.args.given.now))
    (g.S.Site.told c.args.site.now)

pub returns-in-Ok-run_udp-clause-told : goal.returns-in-Ok-run_udp-clause-told
returns-in-Ok-run_udp-clause-told g c stamped earlier =
    let w = udp_of c.args.given.now in
    let s = c.in-Ok-run_udp.ensures in
    told w stamped earlier (Ok tt)
    (given w (Ok tt) c.in-Ok.setting c.as_str.result.now c.in-Ok.ensures c.as_str.ensures.value
    (record { ran = s.ran; legal = s.legal; spent = s.spent; last = s.last }))

pub returns-in-Ok-run_udp-clause-causes : goal.returns-in-Ok-run_udp-clause-causes
returns-in-Ok-run_udp-clause-causes g c =
    let w = udp_of c.args.given.now in
    let s = c.in-Ok-run_udp.ensures in
    causes w (Ok tt)
    (given w (Ok tt) c.in-Ok.setting c.as_str.result.now c.in-Ok.ensures c.as_str.ensures.value
    (record { ran = s.ran; legal = s.legal; spent = s.spent; last = s.last }))

pub returns-clause-told : goal.returns-clause-told
returns-clause-told g c stamped earlier =
    let w = udp_of c.args.given.now in
    let s = c.in-Err.ensures in
    rw c.ending_of.ensures
    (told w stamped earlier (Err c.in-Err.fault)
    (given w (Err c.in-Err.fault) c.in-Ok.setting c.as_str.result.now c.in-Ok.ensures
    c.as_str.ensures.value
    (record { ran = s.ran; legal = s.legal; spent = s.spent; last = s.last })))

pub returns-clause-causes : goal.returns-clause-causes
returns-clause-causes g c =
    let w = udp_of c.args.given.now in
    let s = c.in-Err.ensures in
    rw c.ending_of.ensures
    (causes w (Err c.in-Err.fault)
    (given w (Err c.in-Err.fault) c.in-Ok.setting c.as_str.result.now c.in-Ok.ensures
    c.as_str.ensures.value
    (record { ran = s.ran; legal = s.legal; spent = s.spent; last = s.last })))

pub returns-clause-status : goal.returns-clause-status
returns-clause-status g c = rw c.ending_of.ensures (udp_status (udp_of c.args.given.now)
    c.in-Err.fault)
