use Rattle.std.proofs.Common.{◌∙◌, ◌++◌, ◌∷◌, [], List, ℕ, ap, append_assoc, sym}
use Rattle.std.specs.Prelude.{codes, decimal}
use Rattle.hex.specs.Hex.{encode_lower}
use Rattle.chk_ctl_audit.proofs.lines.part_tail.Goals as goal

pub returns : goal.returns
returns c =
    c.in_ok-text.ensures.ok
    ∙ (ap (λ (d : List ℕ). codes "log begins at "
    ++ (decimal c.args.begin ++ (codes " sha256 " ++ (d ++ 10 ∷ [])))) c.in_ok-digits.ensures
    ∙ sym (ap (λ (t : List ℕ). codes "log begins at " ++ t)
    (append_assoc (decimal c.args.begin) (codes " sha256 " ++ encode_lower c.args.digest.now)
    (10 ∷ []))))
