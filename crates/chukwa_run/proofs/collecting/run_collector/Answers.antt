use Rattle.std.proofs.Common.{Ok, Err}
use Rattle.chk_cmd_line.specs.Commands.{Collector}
use Rattle.chk_cmd_line.specs.Commands.{collector_of}
use Rattle.chukwa_run.proofs.CollectorRun.{collection, causes, told, unread_causes, unread_told, unread_cause, unread_status, collected_cause}
use Rattle.chukwa_run.proofs.Unbegun.{unbegun, caused_nothing}
use Rattle.chukwa_run.proofs.Statuses.{sink_status}
use Rattle.chukwa_run.proofs.collecting.run_collector.Goals as goal

pub returns-in_default-clause-told : goal.returns-in_default-clause-told
returns-in_default-clause-told g c stamped earlier =
    unbegun stamped (Collector (collector_of c.args.given.now)) earlier (g.S.Site.told c.args.site.now)

pub returns-in_default-clause-causes : goal.returns-in_default-clause-causes
returns-in_default-clause-causes g c = caused_nothing (Collector (collector_of c.args.given.now)) (g.S.Site.told c.args.site.now)

pub returns-in_default-from_text-clause-told : goal.returns-in_default-from_text-clause-told
returns-in_default-from_text-clause-told g c stamped earlier =
    unbegun stamped (Collector (collector_of c.args.given.now)) earlier (g.S.Site.told c.args.site.now)

pub returns-in_default-from_text-clause-causes : goal.returns-in_default-from_text-clause-causes
returns-in_default-from_text-clause-causes g c =
    caused_nothing (Collector (collector_of c.args.given.now)) (g.S.Site.told c.args.site.now)

pub returns-in-Ok-collect-clause-told : goal.returns-in-Ok-collect-clause-told
returns-in-Ok-collect-clause-told g c stamped earlier =
    let w = collector_of c.args.given.now in
    let s = c.in-Ok-collect.ensures in
    told w stamped earlier (Ok tt)
    (collection w (Ok tt) c.in-Ok.who c.in-Ok-from_text.door c.in-Ok-read_tees.tees c.in-Ok.ensures c.in-Ok-from_text.ensures
    c.in-Ok-read_tees.ensures.read c.in-Ok-read_tees.ensures.looks
    (record { ran = s.ran; refused = s.refused; told = s.told; finds = s.finds; spent = s.spent; last = s.last }))

pub returns-in-Ok-collect-clause-causes : goal.returns-in-Ok-collect-clause-causes
returns-in-Ok-collect-clause-causes g c =
    let w = collector_of c.args.given.now in
    let s = c.in-Ok-collect.ensures in
    causes w (Ok tt)
    (collection w (Ok tt) c.in-Ok.who c.in-Ok-from_text.door c.in-Ok-read_tees.tees c.in-Ok.ensures c.in-Ok-from_text.ensures
    c.in-Ok-read_tees.ensures.read c.in-Ok-read_tees.ensures.looks
    (record { ran = s.ran; refused = s.refused; told = s.told; finds = s.finds; spent = s.spent; last = s.last }))

pub returns-clause-told : goal.returns-clause-told
returns-clause-told g c stamped earlier =
    let w = collector_of c.args.given.now in
    let s = c.in-Err-collect.ensures in
    rw c.ending_of.ensures
    (told w stamped earlier (Err c.in-Err-collect.fault)
    (collection w (Err c.in-Err-collect.fault) c.in-Ok.who c.in-Ok-from_text.door c.in-Ok-read_tees.tees c.in-Ok.ensures c.in-Ok-from_text.ensures
    c.in-Ok-read_tees.ensures.read c.in-Ok-read_tees.ensures.looks
    (record { ran = s.ran; refused = s.refused; told = s.told; finds = s.finds; spent = s.spent; last = s.last })))

pub returns-clause-causes : goal.returns-clause-causes
returns-clause-causes g c =
    let w = collector_of c.args.given.now in
    let s = c.in-Err-collect.ensures in
    rw c.ending_of.ensures
    (causes w (Err c.in-Err-collect.fault)
    (collection w (Err c.in-Err-collect.fault) c.in-Ok.who c.in-Ok-from_text.door c.in-Ok-read_tees.tees c.in-Ok.ensures c.in-Ok-from_text.ensures
    c.in-Ok-read_tees.ensures.read c.in-Ok-read_tees.ensures.looks
    (record { ran = s.ran; refused = s.refused; told = s.told; finds = s.finds; spent = s.spent; last = s.last })))

pub returns-clause-status : goal.returns-clause-status
returns-clause-status g c = rw c.ending_of.ensures (sink_status (collector_of c.args.given.now) c.in-Err-collect.fault)

pub returns-in-Err-clause-told : goal.returns-in-Err-clause-told
returns-in-Err-clause-told g c stamped earlier =
    let s = c.in-Err.ensures in
    unread_told (collector_of c.args.given.now) stamped earlier c.in-Err.ending
    (record { read = s.read; looks = s.looks; last = s.last })

pub returns-in-Err-clause-causes : goal.returns-in-Err-clause-causes
returns-in-Err-clause-causes g c =
    let s = c.in-Err.ensures in
    unread_causes (collector_of c.args.given.now) c.in-Err.ending
    (record { read = s.read; looks = s.looks; last = s.last })

pub returns-in-Err-clause-cause : goal.returns-in-Err-clause-cause
returns-in-Err-clause-cause g c = unread_cause _ _ c.in-Err.ending c.in-Err.ensures.cause

pub returns-in-Err-clause-status : goal.returns-in-Err-clause-status
returns-in-Err-clause-status g c =
    unread_status (collector_of c.args.given.now) c.in-Err.ending c.in-Err.ensures.read

pub returns-clause-cause : goal.returns-clause-cause
returns-clause-cause g c =
    rw c.ending_of.ensures
    (collected_cause _ _ _ c.in-Err-collect.fault c.in-Ok-read_tees.ensures.cause c.in-Err-collect.ensures.cause)
