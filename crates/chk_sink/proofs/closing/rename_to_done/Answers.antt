use Rattle.std.proofs.Common.{◌∙◌}
use Rattle.chk_site.specs.Runs.{unbegun, went_on, ended}
use Rattle.chk_replace.proofs.OldAndNew.{last_call}
use Rattle.chk_sink.proofs.Owning.{refused_by}
use Rattle.chk_sink.proofs.Scripts.{closing_by}
use Rattle.chk_sink.proofs.closing.rename_to_done.Goals as goal

pub returns-in_err-sink-clause-told : goal.returns-in_err-sink-clause-told
returns-in_err-sink-clause-told g c =
    rw (refused_by c.from_residual.ensures.1) unbegun

pub returns-in_err-closed-clause-told : goal.returns-in_err-closed-clause-told
returns-in_err-closed-clause-told g c =
    rw (refused_by c.from_residual-in_err-closed.ensures.1) unbegun

pub returns-in_err-mark-clause-told : goal.returns-in_err-mark-clause-told
returns-in_err-mark-clause-told g c =
    rw (refused_by c.from_residual-in_err-mark.ensures.1) unbegun

pub returns-in_err-done-clause-told : goal.returns-in_err-done-clause-told
returns-in_err-done-clause-told g c =
    rw (refused_by c.from_residual-in_err-done.ensures.1)
    (closing_by c.args.stem.now c.as_str.result.now c.as_str-2.result.now _
    (c.as_str.ensures.value ∙ c.in_ok-sink.ensures) (c.as_str-2.ensures.value ∙ c.in_ok-closed.ensures) c.in_ok-mark.ensures
    (ended _ c.in_err-done.ensures c.rename-renamed.ensures.told))

pub returns-clause-told : goal.returns-clause-told
returns-clause-told g c =
    closing_by c.args.stem.now c.as_str.result.now c.as_str-2.result.now c.as_str-3.result.now
    (c.as_str.ensures.value ∙ c.in_ok-sink.ensures) (c.as_str-2.ensures.value ∙ c.in_ok-closed.ensures)
    (c.as_str-3.ensures.value ∙ c.in_ok-mark.ensures)
    (went_on _ c.in_ok-done.ensures c.rename-renamed.ensures.told
    (last_call c.done-2.result c.remove-removed.result c.done-2.ensures c.remove-removed.ensures.told))
