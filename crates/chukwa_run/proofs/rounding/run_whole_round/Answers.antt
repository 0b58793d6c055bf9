use Rattle.std.proofs.Common.{Ok, Err}
use Rattle.chk_cmd_line.specs.Commands.{round_of}
use Rattle.chk_cmd_line.specs.Commands.{Round}
use Rattle.chukwa_run.proofs.RoundRun.{causes, of_words, told, went_well, went_wrong}
use Rattle.chukwa_run.proofs.Unbegun.{unbegun, caused_nothing}
use Rattle.chukwa_run.proofs.Statuses.{round_status}
use Rattle.chukwa_run.proofs.rounding.run_whole_round.Goals as goal

pub returns-in_default-clause-told : goal.returns-in_default-clause-told
returns-in_default-clause-told g c stamped earlier =
    unbegun stamped (Round (round_of c.args.given.now)) earlier (g.S.Site.told c.args.site.now)

pub returns-in_default-clause-causes : goal.returns-in_default-clause-causes
returns-in_default-clause-causes g c = caused_nothing (Round (round_of c.args.given.now)) (g.S.Site.told c.args.site.now)

pub returns-in-Ok-run_round-clause-told : goal.returns-in-Ok-run_round-clause-told
returns-in-Ok-run_round-clause-told g c stamped earlier =
    let w = round_of c.args.given.now in
    let s = c.in-Ok-run_round.ensures in
    told w stamped earlier (Ok tt) (Ok tt) went_well
    (of_words w c.in-Ok.words c.in-Ok.ensures (Ok tt) (record { ran = s.ran; last = s.last; told = s.told }))

pub returns-in-Ok-run_round-clause-causes : goal.returns-in-Ok-run_round-clause-causes
returns-in-Ok-run_round-clause-causes g c =
    let w = round_of c.args.given.now in
    let s = c.in-Ok-run_round.ensures in
    causes w (Ok tt) (Ok tt) went_well
    (of_words w c.in-Ok.words c.in-Ok.ensures (Ok tt) (record { ran = s.ran; last = s.last; told = s.told }))

pub returns-clause-told : goal.returns-clause-told
returns-clause-told g c stamped earlier =
    let w = round_of c.args.given.now in
    let s = c.in-Err.ensures in
    told w stamped earlier (Err c.in-Err.end) (Err c.ending_of.result) (went_wrong c.ending_of.ensures)
    (of_words w c.in-Ok.words c.in-Ok.ensures (Err c.in-Err.end) (record { ran = s.ran; last = s.last; told = s.told }))

pub returns-clause-causes : goal.returns-clause-causes
returns-clause-causes g c =
    let w = round_of c.args.given.now in
    let s = c.in-Err.ensures in
    causes w (Err c.in-Err.end) (Err c.ending_of.result) (went_wrong c.ending_of.ensures)
    (of_words w c.in-Ok.words c.in-Ok.ensures (Err c.in-Err.end) (record { ran = s.ran; last = s.last; told = s.told }))

pub returns-clause-status : goal.returns-clause-status
returns-clause-status g c =
    round_status (round_of c.args.given.now) c.args.given.now.source.now c.in-Err.end
    c.ending_of.result c.ending_of.ensures
