use Rattle.std.proofs.Common.{sym, ap, ◌∙◌, Some, take, drop, length, List, ℕ, arith}
use Rattle.std.proofs.lemmas.List.{take_all, length-drop}
use Rattle.std.proofs.lemmas.Slice.Eq.{bytes_eq-Decides}
use Rattle.chk_tee.proofs.FilterLemmas.{behind_found}
use Rattle.chk_tee.proofs.filters.behind.Goals as goal

pub returns-then-starts_with : goal.returns-then-starts_with
returns-then-starts_with c =
    let front = c.args.front.now in
    let text = c.args.text.now in
    behind_found front text (sym ((bytes_eq-Decides front (take (length front) text)).0 (sym c.if-starts_with.ensures.value)))
    ∙ ap (λ (l : List ℕ). Some l) (sym (take_all _ (drop (length front) text) (omega (arith, length-drop (length front) text))))
