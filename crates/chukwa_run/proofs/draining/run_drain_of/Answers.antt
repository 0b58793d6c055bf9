use Rattle.std.proofs.Common.{ℕ, List, Option, Ok, Err, ap, ◌∙◌}
use Rattle.std.specs.Prelude.{option_map}
use Rattle.std.specs.Borrow.{Bor}
use Rattle.chk_cmd_line.specs.Commands.{drain_of}
use Rattle.chk_cmd_line.specs.Commands.{Drain}
use Rattle.chukwa_run.specs.declared.draining.Setting.{Setting}
use Rattle.chukwa_run.proofs.DrainFaults.{has_drain_file, no_bad_drain}
use Rattle.chukwa_run.proofs.DrainRun.{causes, told, went_well, went_wrong}
use Rattle.chukwa_run.proofs.Unbegun.{unbegun, caused_nothing}
use Rattle.chukwa_run.proofs.Statuses.{drain_status}
use Rattle.chukwa_run.proofs.draining.run_drain_of.Goals as goal

pub returns-in_default-clause-told : goal.returns-in_default-clause-told
returns-in_default-clause-told g c stamped earlier =
    unbegun stamped (Drain (drain_of c.args.given.now)) earlier (g.S.Site.told c.args.site.now)

pub returns-in_default-clause-causes : goal.returns-in_default-clause-causes
returns-in_default-clause-causes g c = caused_nothing (Drain (drain_of c.args.given.now)) (g.S.Site.told c.args.site.now)

pub returns-in-Ok-run_drain-clause-told : goal.returns-in-Ok-run_drain-clause-told
returns-in-Ok-run_drain-clause-told g c stamped earlier =
    let s = c.in-Ok-run_drain.ensures in
    told (drain_of c.args.given.now) _ (Ok tt) went_well c.in-Ok.setting c.in-Ok.ensures
    (record { ran = s.ran; told = s.told; done = s.done; last = s.last }) stamped earlier

pub returns-in-Ok-run_drain-clause-causes : goal.returns-in-Ok-run_drain-clause-causes
returns-in-Ok-run_drain-clause-causes g c =
    let s = c.in-Ok-run_drain.ensures in
    causes (drain_of c.args.given.now) _ (Ok tt) went_well c.in-Ok.setting c.in-Ok.ensures
    (record { ran = s.ran; told = s.told; done = s.done; last = s.last })

pub returns-clause-told : goal.returns-clause-told
returns-clause-told g c stamped earlier =
    let s = c.in-Err.ensures in
    told (drain_of c.args.given.now) (Err c.in-Err.fault) (Err c.ending_of.result) (went_wrong c.ending_of.ensures)
    c.in-Ok.setting c.in-Ok.ensures (record { ran = s.ran; told = s.told; done = s.done; last = s.last }) stamped earlier

pub returns-clause-causes : goal.returns-clause-causes
returns-clause-causes g c =
    let s = c.in-Err.ensures in
    causes (drain_of c.args.given.now) (Err c.in-Err.fault) (Err c.ending_of.result) (went_wrong c.ending_of.ensures)
    c.in-Ok.setting c.in-Ok.ensures (record { ran = s.ran; told = s.told; done = s.done; last = s.last })

pub ending_of-requires-clause-initial : goal.ending_of-requires-clause-initial
ending_of-requires-clause-initial g c k is =
    let setting = c.in-Ok.setting in
    has_drain_file c.args.given.now.initial c.in-Err.fault
    (λ none. no_bad_drain setting.who setting.writer setting.ring setting.rules setting.work
    (Err c.in-Err.fault) _ _ c.in-Err.ensures.ran
    (ap (λ (s : Setting). s.work.initial) c.in-Ok.ensures
    ∙ ap (λ (o : Option (Bor (List ℕ))). option_map {T = Bor (List ℕ)} {U = List ℕ} (λ t. t.now) o) none))
    k is

pub returns-clause-status : goal.returns-clause-status
returns-clause-status g c = drain_status (drain_of c.args.given.now) c.in-Err.fault c.ending_of.result c.ending_of.ensures
