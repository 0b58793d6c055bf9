use Rattle.std.proofs.Common.{◌∙◌, ◌++◌, ◌∷◌, [], List, ℕ, ap, append_assoc, sym}
use Rattle.std.specs.Prelude.{codes, decimal, string_bytes}
use Rattle.hex.specs.Hex.{encode_lower}
use Rattle.chk_ctl_audit.proofs.lines.other_tail.Goals as goal

pub returns : goal.returns
returns c =
    let one = encode_lower c.args.digest.now in
    let other = encode_lower c.args.log.now in
    c.in_ok-text.ensures.ok
    ∙ (ap (λ (d : List ℕ). codes "log begins at "
    ++ (decimal c.args.begin ++ (codes " archive "
    ++ (d ++ (codes " log " ++ (string_bytes c.in_ok-others.others ++ 10 ∷ []))))))
    c.in_ok-digits.ensures
    ∙ (ap (λ (d : List ℕ). codes "log begins at "
    ++ (decimal c.args.begin ++ (codes " archive " ++ (one ++ (codes " log " ++ (d ++ 10 ∷ []))))))
    c.in_ok-others.ensures
    ∙ sym (ap (λ (t : List ℕ). codes "log begins at " ++ t)
    (append_assoc (decimal c.args.begin) (codes " archive " ++ (one ++ (codes " log " ++ other)))
    (10 ∷ [])
    ∙ ap (λ (t : List ℕ). decimal c.args.begin ++ (codes " archive " ++ t))
    (append_assoc one (codes " log " ++ other) (10 ∷ []))))))
