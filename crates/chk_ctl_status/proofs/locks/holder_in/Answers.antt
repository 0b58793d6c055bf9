use Rattle.std.proofs.Common.{◌≡◌, ◌∙◌, ◌+◌, ◌==◌, ℕ, [], None, ap, arith, drop, length, sym}
use Rattle.std.specs.List.{after_first, position_or_len}
use Rattle.std.proofs.lemmas.List.{drop_all}
use Rattle.std.proofs.lemmas.Str.Pattern.{split_once_first}
use Rattle.chk_ctl_status.specs.Locks.{held_in}
use Rattle.chk_ctl_status.proofs.locks.holder_in.Goals as goal

pub returns-in-None : goal.returns-in-None
returns-in-None c =
    let text = c.args.line.now in
    let whole : position_or_len (λ b. b == 58) text ≡ length text =
    split_once_first 58 text None c.in-None.ensures.cases (omega arith) in
    let none : after_first (λ b. b == 58) text ≡ [] =
    ap (λ (n : ℕ). drop (n + 1) text) whole ∙ drop_all (length text + 1) text (omega arith) in
    sym (ap (held_in c.args.place.now) none)
