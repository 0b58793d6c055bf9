use Rattle.std.proofs.Common.{◌∙◌, true, false, ap, map, sym}
use Rattle.std.proofs.lemmas.List.Folds.{list_all-map}
use Rattle.chk_checkpoint.specs.Lines.{shown}
use Rattle.chk_ctl_passed.specs.Judging.{has_line, is_of, passes, verdict_by}
use Rattle.chk_ctl_passed.proofs.Mapped.{list_any-map}
use Rattle.chk_ctl_passed.proofs.judging.verdict_of.Goals as goal

pub returns-in-Base : goal.returns-in-Base
returns-in-Base c =
    rw c.in-Base.is
    (c.verdict_by.ensures
    ∙ ap (λ k. verdict_by k true)
    (c.has_line-is_known.ensures
    ∙ sym (list_any-map (is_of c.args.path.now) shown c.args.lines.now)))

pub returns-in-Rotated : goal.returns-in-Rotated
returns-in-Rotated c =
    let path = c.args.path.now in
    let lines = c.args.lines.now in
    rw c.in-Rotated.is
    (c.verdict_by-in-Rotated.ensures
    ∙ (ap (λ k. verdict_by k c.all_passed.result)
    (c.has_line-is_known.ensures ∙ sym (list_any-map (is_of path) shown lines))
    ∙ ap (λ p. verdict_by (has_line (map shown lines) path) p)
    (c.all_passed.ensures ∙ sym (list_all-map (passes path c.in-Rotated.suffix) shown lines))))

pub returns-in-Changed : goal.returns-in-Changed
returns-in-Changed c =
    rw c.in-Changed.is
    (c.verdict_by-in-Changed.ensures
    ∙ ap (λ k. verdict_by k false)
    (c.has_line-is_known.ensures
    ∙ sym (list_any-map (is_of c.args.path.now) shown c.args.lines.now)))
