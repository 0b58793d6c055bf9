use Rattle.chk_world.proofs.Working.{works_then}
use Rattle.chk_sink.proofs.Owning.{made_as, made_ok, made_none, refused_by}
use Rattle.std.proofs.Common.{◌∙◌, ap, Ok}
use Rattle.chk_sink.specs.Settling.{HoldsAt, MarkFound, BothGone}
use Rattle.chk_sink.proofs.Founding.{found_as, found_then}
use Rattle.chk_sink.proofs.JoinedCauses.{cause_then}
use Rattle.chk_sink.proofs.settling.settle_stem.Goals as goal

pub returns-in_err-length-clause-told : goal.returns-in_err-length-clause-told
returns-in_err-length-clause-told g c stamped s may settles other =
    let x = c.args.stem in
    found_as stamped s (λ v. HoldsAt s may x BothGone) (λ found. HoldsAt s may x (MarkFound found)) c.read_mark.result
    c.from_residual-in_err-length.result _ c.in_err-length.was (refused_by c.from_residual-in_err-length.ensures.1)
    (c.read_mark.ensures.told stamped s may x settles other (c.as_str.ensures.value ∙ c.in_ok-mark.ensures))

pub returns-in-Some-clause-told : goal.returns-in-Some-clause-told
returns-in-Some-clause-told g c stamped s may settles other =
    let x = c.args.stem in
    found_then stamped s (λ found. HoldsAt s may x (MarkFound found)) c.read_mark.result _ (c.in_ok-length.was ∙ ap Ok c.in-Some.is)
    (c.read_mark.ensures.told stamped s may x settles other (c.as_str.ensures.value ∙ c.in_ok-mark.ensures))
    (c.close_at.ensures.told stamped s may settles other)

pub returns-in-Some-clause-damaged : goal.returns-in-Some-clause-damaged
returns-in-Some-clause-damaged g c =
    cause_then c.read_mark.result _ c.close_at.result c.in_ok-length.was
    (c.read_mark.ensures.damaged c.args.stem c.requires (c.as_str.ensures.value ∙ c.in_ok-mark.ensures)) c.close_at.ensures.damaged

pub returns-clause-told : goal.returns-clause-told
returns-clause-told g c stamped s may settles other =
    let x = c.args.stem in
    found_then stamped s (λ found. HoldsAt s may x (MarkFound found)) c.read_mark.result _ (c.in_ok-length.was ∙ ap Ok c.in-None.is)
    (c.read_mark.ensures.told stamped s may x settles other (c.as_str.ensures.value ∙ c.in_ok-mark.ensures))
    (c.remove_sink.ensures.told stamped s may x settles other (c.as_str-in-None.ensures.value ∙ c.in_ok-sink.ensures))

pub returns-clause-damaged : goal.returns-clause-damaged
returns-clause-damaged g c =
    cause_then c.read_mark.result _ c.remove_sink.result c.in_ok-length.was
    (c.read_mark.ensures.damaged c.args.stem c.requires (c.as_str.ensures.value ∙ c.in_ok-mark.ensures)) c.remove_sink.ensures.damaged

pub returns-in_err-sink-clause-own : goal.returns-in_err-sink-clause-own
returns-in_err-sink-clause-own g c =
    made_none c.from_residual.result _ (refused_by c.from_residual.ensures.1)

pub returns-in_err-mark-clause-own : goal.returns-in_err-mark-clause-own
returns-in_err-mark-clause-own g c =
    made_none c.from_residual-in_err-mark.result _ (refused_by c.from_residual-in_err-mark.ensures.1)

pub returns-in_err-length-clause-own : goal.returns-in_err-length-clause-own
returns-in_err-length-clause-own g c =
    made_as c.read_mark.result c.from_residual-in_err-length.result _ c.in_err-length.was (refused_by c.from_residual-in_err-length.ensures.1) (c.read_mark.ensures.own c.args.stem (c.as_str.ensures.value ∙ c.in_ok-mark.ensures))

pub returns-in-Some-clause-own : goal.returns-in-Some-clause-own
returns-in-Some-clause-own g c =
    works_then (made_ok c.read_mark.result _ c.in_ok-length.was (c.read_mark.ensures.own c.args.stem (c.as_str.ensures.value ∙ c.in_ok-mark.ensures))) c.close_at.ensures.own

pub returns-clause-own : goal.returns-clause-own
returns-clause-own g c =
    works_then (made_ok c.read_mark.result _ c.in_ok-length.was (c.read_mark.ensures.own c.args.stem (c.as_str.ensures.value ∙ c.in_ok-mark.ensures)))
    (c.remove_sink.ensures.own c.args.stem (c.as_str-in-None.ensures.value ∙ c.in_ok-sink.ensures))
