use Rattle.std.proofs.Common.{◌∙◌, ◌++◌, ◌∷◌, [], List, ℕ, ap, append_assoc, sym}
use Rattle.std.specs.Prelude.{codes, decimal}
use Rattle.chk_ctl_audit.proofs.lines.short_tail.Goals as goal

pub returns : goal.returns
returns c =
    c.in_ok-text.ensures.ok
    ∙ sym (ap (λ (t : List ℕ). codes "log begins at " ++ t)
    (append_assoc (decimal c.args.begin) (codes " log ends at " ++ decimal c.args.at) (10 ∷ [])))
