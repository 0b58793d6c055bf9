use Rattle.std.proofs.Common.{◌+◌, ◌∙◌, List, ℕ, ap, drop, subst, sym, take}
use Rattle.chk_world.proofs.Each.{Each}
use Rattle.chk_book.specs.declared.lists.End.{End}
use Rattle.chk_ctl_audit.specs.Finding.{IsFrom}
use Rattle.chk_ctl_audit.proofs.Steps.{one_of, rest_all}
use Rattle.chk_ctl_audit.proofs.agents.past_source.Goals as goal

pub returns-clause-same : goal.returns-clause-same
returns-clause-same c =
    let ends = c.args.ends.now in
    let at = c.args.at in
    let k = c.of_source.result in
    one_of ends at k c.index-ends-at.result c.requires c.index-ends-at.is
    (subst (λ (s : List ℕ). Each (IsFrom s) (take k (drop (at + 1) ends)))
    (c.as_str.ensures.text ∙ sym (ap (λ (e : End). e.source) c.index-ends-at.is))
    (subst (λ (es : List End). Each (IsFrom c.as_str.result.now) (take k es))
    (rest_all (at + 1) ends) c.of_source.ensures.same))
