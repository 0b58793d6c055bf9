use Rattle.chk_world.proofs.Working.{works_then}
use Rattle.chk_sink.proofs.Owning.{made_as, made_ok, refused_by}
use Rattle.std.proofs.Common.{◌∙◌, ap, Ok}
use Rattle.chk_sink.specs.Settling.{HoldsAt, CutFound, BothGone}
use Rattle.chk_sink.proofs.Founding.{found_as, found_then}
use Rattle.chk_sink.proofs.JoinedCauses.{cause_then}
use Rattle.chk_sink.proofs.settling.close_at.Goals as goal

pub returns-in_err-cut_to-clause-told : goal.returns-in_err-cut_to-clause-told
returns-in_err-cut_to-clause-told g c stamped s may settles other =
    let x = c.args.stem.now in
    found_as stamped s (λ v. HoldsAt s may x BothGone) (λ there. HoldsAt s may x (CutFound c.args.length there)) c.cut_to.result
    c.from_residual.result _ c.in_err-cut_to.was (refused_by c.from_residual.ensures.1)
    (c.cut_to.ensures.told stamped s may x settles other c.requires.sink)

pub returns-then-branch-clause-told : goal.returns-then-branch-clause-told
returns-then-branch-clause-told g c stamped s may settles other =
    let x = c.args.stem.now in
    found_then stamped s (λ there. HoldsAt s may x (CutFound c.args.length there)) c.cut_to.result _ (c.in_ok-cut_to.was ∙ ap Ok c.if-branch.true)
    (c.cut_to.ensures.told stamped s may x settles other c.requires.sink)
    (c.close_cut.ensures.told stamped s may c.args.length settles other)

pub returns-then-branch-clause-damaged : goal.returns-then-branch-clause-damaged
returns-then-branch-clause-damaged g c =
    cause_then c.cut_to.result _ c.close_cut.result c.in_ok-cut_to.was
    (c.cut_to.ensures.damaged c.args.stem.now c.requires.good c.requires.sink c.requires.mark) c.close_cut.ensures.damaged

pub returns-else-branch-clause-told : goal.returns-else-branch-clause-told
returns-else-branch-clause-told g c stamped s may settles other =
    let x = c.args.stem.now in
    found_then stamped s (λ there. HoldsAt s may x (CutFound c.args.length there)) c.cut_to.result _ (c.in_ok-cut_to.was ∙ ap Ok c.if-branch.false)
    (c.cut_to.ensures.told stamped s may x settles other c.requires.sink)
    (c.remove_mark.ensures.told stamped s may x settles other c.requires.mark)

pub returns-else-branch-clause-damaged : goal.returns-else-branch-clause-damaged
returns-else-branch-clause-damaged g c =
    cause_then c.cut_to.result _ c.remove_mark.result c.in_ok-cut_to.was
    (c.cut_to.ensures.damaged c.args.stem.now c.requires.good c.requires.sink c.requires.mark) c.remove_mark.ensures.damaged

pub returns-in_err-cut_to-clause-own : goal.returns-in_err-cut_to-clause-own
returns-in_err-cut_to-clause-own g c =
    made_as c.cut_to.result c.from_residual.result _ c.in_err-cut_to.was (refused_by c.from_residual.ensures.1) (c.cut_to.ensures.own c.args.stem.now c.requires.sink)

pub returns-then-branch-clause-own : goal.returns-then-branch-clause-own
returns-then-branch-clause-own g c =
    works_then (made_ok c.cut_to.result _ c.in_ok-cut_to.was (c.cut_to.ensures.own c.args.stem.now c.requires.sink)) c.close_cut.ensures.own

pub returns-else-branch-clause-own : goal.returns-else-branch-clause-own
returns-else-branch-clause-own g c =
    works_then (made_ok c.cut_to.result _ c.in_ok-cut_to.was (c.cut_to.ensures.own c.args.stem.now c.requires.sink))
    (c.remove_mark.ensures.own c.args.stem.now c.requires.mark)
