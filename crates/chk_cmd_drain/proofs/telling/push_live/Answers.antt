use Rattle.std.proofs.Common.{◌++◌, List, ℕ, not, ap, sym, ◌∙◌, append-nil}
use Rattle.chk_cmd_drain.proofs.LiveOnes.{none_here, one_here}
use Rattle.chk_cmd_drain.proofs.telling.push_live.Goals as goal

pub returns-then-is_none : goal.returns-then-is_none
returns-then-is_none c a at =
    let found = c.args.numbers.now.items in
    let none = c.is_none.ensures ∙ ap not c.if-is_none.true in
    sym (ap (λ (k : List ℕ). found ++ k)
    (none_here c.args.number a c.state.result (c.state.ensures a at) none) ∙ append-nil found)

pub returns : goal.returns
returns c a at =
    let found = c.args.numbers.now.items in
    let some = c.is_none.ensures ∙ ap not c.if-is_none.false in
    c.in_ok-push.ensures.items
    ∙ ap (λ (k : List ℕ). found ++ k)
    (sym (one_here c.args.number a c.state.result (c.state.ensures a at) some))
