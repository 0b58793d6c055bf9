use Rattle.std.proofs.Common.{◌∙◌, ◌+◌, ◌-◌, ◌≤◌, length, take, drop, sym, subst, arith, length-drop, List, ℕ}
use Rattle.std.proofs.lemmas.List.{take_all}
use Rattle.chk_bytes.specs.Words.{SplitsAt}
use Rattle.chk_bytes.proofs.PartLemmas.{split_found, split_none}
use Rattle.chk_http.proofs.split.split_at.Goals as goal

pub returns-in_err-at : goal.returns-in_err-at
returns-in_err-at c =
    rw c.from_residual.ensures (split_none c.args.separator c.args.text.now (sym c.first_place.ensures ∙ c.in_err-at.was))

pub returns : goal.returns
returns c =
    let text = c.args.text.now in
    let at = c.in_ok-at.at in
    let fits : length (drop (at + 1) text) ≤ length text - (at + 1) = omega (arith, length-drop (at + 1) text) in
    let P : List ℕ → Type 0 = λ back. SplitsAt c.args.separator text (take at text) back in
    subst P (sym (take_all (length text - (at + 1)) (drop (at + 1) text) fits))
    (split_found c.args.separator at text (sym c.first_place.ensures ∙ c.in_ok-at.was))
