use Rattle.std.proofs.Common.{◌∙◌, ap, ◌++◌, List, ℕ}
use Rattle.chk_bytes.specs.Numbers.{be64}
use Rattle.chk_site.specs.Runs.{unbegun, went_on, ended}
use Rattle.chk_sink.proofs.Owning.{refused_by}
use Rattle.chk_sink.proofs.Scripts.{publishing_by}
use Rattle.chk_sink.proofs.closing.publish.Goals as goal

pub returns-in_err-sink-clause-told : goal.returns-in_err-sink-clause-told
returns-in_err-sink-clause-told g c =
    rw (refused_by c.from_residual.ensures.1) unbegun

pub returns-in_err-mark-clause-told : goal.returns-in_err-mark-clause-told
returns-in_err-mark-clause-told g c =
    rw (refused_by c.from_residual-in_err-mark.ensures.1) unbegun

pub returns-in_err-put_u64-clause-told : goal.returns-in_err-put_u64-clause-told
returns-in_err-put_u64-clause-told g c =
    rw (refused_by c.from_residual-in_err-put_u64.ensures.1) unbegun

pub returns-in_err-done-clause-told : goal.returns-in_err-done-clause-told
returns-in_err-done-clause-told g c =
    rw (refused_by c.from_residual-in_err-done.ensures.1)
    (publishing_by c.args.stem.now c.args.size c.as_str.result.now _ _ (c.as_str.ensures.value ∙ c.in_ok-sink.ensures) c.in_ok-mark.ensures
    (c.in_ok-put_u64.ensures.ok ∙ ap (λ (l : List ℕ). l ++ be64 c.args.size) c.new-number.ensures)
    (ended _ c.in_err-done.ensures c.sync-synced.ensures.told))

pub returns-clause-told : goal.returns-clause-told
returns-clause-told g c =
    publishing_by c.args.stem.now c.args.size c.as_str.result.now c.as_str-2.result.now c.as_slice.result.now
    (c.as_str.ensures.value ∙ c.in_ok-sink.ensures) (c.as_str-2.ensures.value ∙ c.in_ok-mark.ensures)
    (c.as_slice.ensures ∙ (c.in_ok-put_u64.ensures.ok ∙ ap (λ (l : List ℕ). l ++ be64 c.args.size) c.new-number.ensures))
    (went_on _ c.in_ok-done.ensures c.sync-synced.ensures.told c.replace.ensures.told)
