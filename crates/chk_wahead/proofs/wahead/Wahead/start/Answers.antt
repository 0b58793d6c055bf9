use Rattle.std.proofs.Common.{refl}
use Rattle.chk_wahead.specs.Telling.{unbegun}
use Rattle.chk_wahead.proofs.Joining.{refused_by}
use Rattle.chk_wahead.proofs.Starts.{start_last, opens_as}
use Rattle.chk_wahead.proofs.Staying.{start_legal}
use Rattle.chk_wahead.proofs.wahead.Wahead.start.Goals as goal

pub returns-in_err-wahead-clause-told : goal.returns-in_err-wahead-clause-told
returns-in_err-wahead-clause-told g c = rw (refused_by c.from_residual.ensures.1) unbegun

pub returns-in_err-wahead-clause-last : goal.returns-in_err-wahead-clause-last
returns-in_err-wahead-clause-last g c = start_last c.args.who.now c.from_residual.result (returns-in_err-wahead-clause-told g c)

pub returns-in_err-open-clause-told : goal.returns-in_err-open-clause-told
returns-in_err-open-clause-told g c =
    rw (refused_by c.from_residual-in_err-open.ensures.1)
    ((opens_as c.args.who.now c.in_ok-wahead.wahead c.open.new.self c.in_ok-wahead.ensures c.in_err-open.ensures.told).bad c.in_err-open.field-0.0 refl)

pub returns-in_err-open-clause-last : goal.returns-in_err-open-clause-last
returns-in_err-open-clause-last g c = start_last c.args.who.now c.from_residual-in_err-open.result (returns-in_err-open-clause-told g c)

pub returns-clause-told : goal.returns-clause-told
returns-clause-told g c =
    (opens_as c.args.who.now c.in_ok-wahead.wahead c.open.new.self c.in_ok-wahead.ensures c.in_ok-open.ensures.told).fine refl

pub returns-clause-last : goal.returns-clause-last
returns-clause-last g c = start_last c.args.who.now _ (returns-clause-told g c)

pub returns-in_err-wahead-clause-legal : goal.returns-in_err-wahead-clause-legal
returns-in_err-wahead-clause-legal g c = start_legal c.args.who.now c.from_residual.result (returns-in_err-wahead-clause-told g c)

pub returns-in_err-open-clause-legal : goal.returns-in_err-open-clause-legal
returns-in_err-open-clause-legal g c = start_legal c.args.who.now c.from_residual-in_err-open.result (returns-in_err-open-clause-told g c)

pub returns-clause-legal : goal.returns-clause-legal
returns-clause-legal g c = start_legal c.args.who.now _ (returns-clause-told g c)
