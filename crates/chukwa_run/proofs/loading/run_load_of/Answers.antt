use Rattle.std.proofs.Common.{Ok, Err}
use Rattle.chukwa_run.proofs.LoadRun.{causes, told, went_well, went_wrong}
use Rattle.chukwa_run.proofs.Statuses.{load_status}
use Rattle.chukwa_run.proofs.loading.run_load_of.Goals as goal

pub returns-in-Ok-clause-told : goal.returns-in-Ok-clause-told
returns-in-Ok-clause-told g c stamped earlier =
    let s = c.in-Ok.ensures in
    told c.args.lines stamped earlier (Ok c.in-Ok._report) (Ok tt) went_well
    (record { told = s.told; appends = s.appends; own = s.own; prints = s.prints; runs = s.runs; last = s.last; round = s.round })

pub returns-in-Ok-clause-causes : goal.returns-in-Ok-clause-causes
returns-in-Ok-clause-causes g c =
    let s = c.in-Ok.ensures in
    causes c.args.lines (Ok c.in-Ok._report) (Ok tt) went_well
    (record { told = s.told; appends = s.appends; own = s.own; prints = s.prints; runs = s.runs; last = s.last; round = s.round })

pub returns-in-Err-clause-told : goal.returns-in-Err-clause-told
returns-in-Err-clause-told g c stamped earlier =
    let s = c.in-Err.ensures in
    told c.args.lines stamped earlier (Err c.in-Err.end) (Err c.ending_of.result) (went_wrong c.ending_of.ensures)
    (record { told = s.told; appends = s.appends; own = s.own; prints = s.prints; runs = s.runs; last = s.last; round = s.round })

pub returns-in-Err-clause-causes : goal.returns-in-Err-clause-causes
returns-in-Err-clause-causes g c =
    let s = c.in-Err.ensures in
    causes c.args.lines (Err c.in-Err.end) (Err c.ending_of.result) (went_wrong c.ending_of.ensures)
    (record { told = s.told; appends = s.appends; own = s.own; prints = s.prints; runs = s.runs; last = s.last; round = s.round })

pub returns-in-Err-clause-status : goal.returns-in-Err-clause-status
returns-in-Err-clause-status g c = load_status c.args.lines c.in-Err.end c.ending_of.result
    c.ending_of.ensures
