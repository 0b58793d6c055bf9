use Rattle.std.proofs.Common.{◌∙◌, ◌+◌, ◌-◌, ◌≤◌, length, take, drop, sym, subst, arith, length-drop, List, ℕ}
use Rattle.std.proofs.lemmas.List.{take_all}
use Rattle.chk_bytes.specs.Words.{SplitsAt}
use Rattle.chk_bytes.proofs.PartLemmas.{split_found}
use Rattle.chk_exchange.proofs.made.split_at_space.Goals as goal

pub returns : goal.returns
returns c =
    let text = c.args.text.now in
    let at = c.in_ok-space.space in
    let fits : length (drop (at + 1) text) ≤ length text - (at + 1) =
    omega (arith, length-drop (at + 1) text) in
    let P : List ℕ → Type 0 = λ back. SplitsAt 32 text (take at text) back in
    subst P (sym (take_all (length text - (at + 1)) (drop (at + 1) text) fits))
    (split_found 32 at text (sym c.first_space.ensures ∙ c.in_ok-space.was))
