use Rattle.std.proofs.Common.{ap, sym, ◌∙◌, if◌then◌else◌}
use Rattle.chk_world.specs.Checkpoints.{One, Two}
use Rattle.chk_checkpoint.proofs.WrittenLemmas.{all_from_0}
use Rattle.chk_checkpoint.proofs.writing.version_for.Goals as goal

pub returns-then-are_from_0 : goal.returns-then-are_from_0
returns-then-are_from_0 c =
    ap (λ b. if b then One else Two) (sym (all_from_0 c.args.lines.now ∙ (sym c.are_from_0.ensures ∙ c.if-are_from_0.true)))

pub returns-else-are_from_0 : goal.returns-else-are_from_0
returns-else-are_from_0 c =
    ap (λ b. if b then One else Two) (sym (all_from_0 c.args.lines.now ∙ (sym c.are_from_0.ensures ∙ c.if-are_from_0.false)))
