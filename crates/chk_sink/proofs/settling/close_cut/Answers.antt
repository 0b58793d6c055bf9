use Rattle.chk_world.proofs.Working.{works_then}
use Rattle.chk_sink.proofs.Owning.{made_as, made_ok, made_none, refused_by}
use Rattle.std.proofs.Common.{◌∙◌}
use Rattle.chk_sink.specs.Settling.{HoldsAt, NoSink, BothGone}
use Rattle.chk_sink.proofs.Founding.{found_as, found_then}
use Rattle.chk_sink.proofs.JoinedCauses.{cause_then}
use Rattle.chk_sink.proofs.settling.close_cut.Goals as goal

pub returns-in_err-rename_closed-clause-told : goal.returns-in_err-rename_closed-clause-told
returns-in_err-rename_closed-clause-told g c stamped s may n settles other =
    let x = c.args.stem.now in
    found_as stamped s (λ v. HoldsAt s may x BothGone) (λ v. HoldsAt s may x NoSink) c.rename_closed.result
    c.from_residual-in_err-rename_closed.result _ c.in_err-rename_closed.was (refused_by c.from_residual-in_err-rename_closed.ensures.1)
    (c.rename_closed.ensures.told stamped s may x n settles other c.requires.sink (c.as_str.ensures.value ∙ c.in_ok-closed.ensures))

pub returns-clause-told : goal.returns-clause-told
returns-clause-told g c stamped s may n settles other =
    let x = c.args.stem.now in
    found_then stamped s (λ v. HoldsAt s may x NoSink) c.rename_closed.result _ c.in_ok-rename_closed.was
    (c.rename_closed.ensures.told stamped s may x n settles other c.requires.sink (c.as_str.ensures.value ∙ c.in_ok-closed.ensures))
    (c.remove_mark.ensures.told stamped s may x settles other c.requires.mark)

pub returns-clause-damaged : goal.returns-clause-damaged
returns-clause-damaged g c =
    cause_then c.rename_closed.result _ c.remove_mark.result c.in_ok-rename_closed.was c.rename_closed.ensures.damaged c.remove_mark.ensures.damaged

pub returns-in_err-closed-clause-own : goal.returns-in_err-closed-clause-own
returns-in_err-closed-clause-own g c =
    made_none c.from_residual.result _ (refused_by c.from_residual.ensures.1)

pub returns-in_err-rename_closed-clause-own : goal.returns-in_err-rename_closed-clause-own
returns-in_err-rename_closed-clause-own g c =
    made_as c.rename_closed.result c.from_residual-in_err-rename_closed.result _ c.in_err-rename_closed.was (refused_by c.from_residual-in_err-rename_closed.ensures.1)
    (c.rename_closed.ensures.own c.args.stem.now c.requires.sink (c.as_str.ensures.value ∙ c.in_ok-closed.ensures))

pub returns-clause-own : goal.returns-clause-own
returns-clause-own g c =
    works_then
    (made_ok c.rename_closed.result _ c.in_ok-rename_closed.was
    (c.rename_closed.ensures.own c.args.stem.now c.requires.sink (c.as_str.ensures.value ∙ c.in_ok-closed.ensures)))
    (c.remove_mark.ensures.own c.args.stem.now c.requires.mark)
