use Rattle.std.proofs.Common.{Ok, Err}
use Rattle.chk_cmd_line.specs.Commands.{Salvage}
use Rattle.chukwa_run.proofs.SalvageRun.{is_salvage, went_well, went_wrong, caused_so, told_so}
use Rattle.chukwa_run.proofs.Unbegun.{unbegun, caused_nothing}
use Rattle.chukwa_run.proofs.Statuses.{salvage_status}
use Rattle.chukwa_run.proofs.salvaging.run_salvage.Goals as goal

pub returns-in_default-clause-told : goal.returns-in_default-clause-told
returns-in_default-clause-told g c stamped earlier =
    unbegun stamped (Salvage c.args.file.now) earlier (g.S.Site.told c.args.site.now)

pub returns-in_default-clause-causes : goal.returns-in_default-clause-causes
returns-in_default-clause-causes g c = caused_nothing (Salvage c.args.file.now) (g.S.Site.told c.args.site.now)

pub returns-in-Ok-salvage-clause-told : goal.returns-in-Ok-salvage-clause-told
returns-in-Ok-salvage-clause-told g c stamped earlier =
    let s = c.in-Ok-salvage.ensures in
    told_so c.args.file.now stamped earlier (went_well)
    (is_salvage c.args.file.now (Ok tt) c.in-Ok.ensures s.prints s.acts s.last s.runs)

pub returns-in-Ok-salvage-clause-causes : goal.returns-in-Ok-salvage-clause-causes
returns-in-Ok-salvage-clause-causes g c =
    let s = c.in-Ok-salvage.ensures in
    caused_so c.args.file.now (went_well)
    (is_salvage c.args.file.now (Ok tt) c.in-Ok.ensures s.prints s.acts s.last s.runs)

pub returns-clause-told : goal.returns-clause-told
returns-clause-told g c stamped earlier =
    let s = c.in-Err.ensures in
    told_so c.args.file.now stamped earlier (went_wrong c.ending_of.ensures)
    (is_salvage c.args.file.now (Err c.in-Err.fault) c.in-Ok.ensures s.prints s.acts s.last s.runs)

pub returns-clause-causes : goal.returns-clause-causes
returns-clause-causes g c =
    let s = c.in-Err.ensures in
    caused_so c.args.file.now (went_wrong c.ending_of.ensures)
    (is_salvage c.args.file.now (Err c.in-Err.fault) c.in-Ok.ensures s.prints s.acts s.last s.runs)

pub returns-clause-status : goal.returns-clause-status
returns-clause-status g c = salvage_status c.args.file.now c.in-Err.fault c.ending_of.result c.ending_of.ensures
