use Rattle.std.proofs.Common.{◌≡◌, ◌∙◌, ◌+◌, ◌==◌, ℕ, List, [], None, ap, arith, drop, length, refl, sym}
use Rattle.std.specs.List.{after_first, before_first, position_or_len}
use Rattle.std.proofs.lemmas.List.{drop_all}
use Rattle.std.proofs.lemmas.Str.Pattern.{split_once_first}
use Rattle.chk_bytes.specs.Words.{is_word}
use Rattle.chk_ctl_line.specs.Controls.{control_by}
use Rattle.chk_ctl_line.proofs.controls.control_in.Goals as goal

-- nothing is no address
no_address : (name : List ℕ) → control_by name [] ≡ None
unfolding is_word
no_address name = refl

pub returns-in-None : goal.returns-in-None
returns-in-None c =
    let text = c.args.text.now in
    let whole : position_or_len (λ b. b == 61) text ≡ length text =
    split_once_first 61 text None c.in-None.ensures.cases (omega arith) in
    let none : after_first (λ b. b == 61) text ≡ [] =
    ap (λ (n : ℕ). drop (n + 1) text) whole ∙ drop_all (length text + 1) text (omega arith) in
    sym (ap (control_by (before_first (λ b. b == 61) text)) none ∙ no_address _)
