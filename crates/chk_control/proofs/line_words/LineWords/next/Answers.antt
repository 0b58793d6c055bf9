use Rattle.std.proofs.Common.{◌≡◌, ◌∙◌, ℕ, List, length, take, drop, ◌-◌, sym, arith}
use Rattle.std.proofs.lemmas.Grind.{common_steps}
use Rattle.chk_control.proofs.LineWordLemmas.{next_word, no_word}
use Rattle.chk_control.proofs.line_words.LineWords.next.Goals as goal

-- a part that goes to the end
whole_rest : (xs : List ℕ) (n : ℕ) → take (length xs - n) (drop n xs) ≡ drop n xs
whole_rest xs n = grind (arith, common_steps)

pub returns-clause-some : goal.returns-clause-some
returns-clause-some c =
    let line = c.self.inside.rest.now in
    let start = c.in_ok-start.start in
    let size = c.unwrap_or-size.result in
    let from = take (length line - start) (drop start line) in
    sym c.self.view_is
    ∙ next_word line from (take (length from - size) (drop size from)) start size c.gap_start.result
    (sym c.word_start.ensures ∙ c.in_ok-start.was)
    (whole_rest line start) c.gap_start.ensures c.unwrap_or-size.ensures (whole_rest from size)

pub returns-in_err-start-clause-none : goal.returns-in_err-start-clause-none
returns-in_err-start-clause-none c =
    rw c.from_residual.ensures
    (sym c.self.view_is ∙ no_word c.self.inside.rest.now
    (sym c.word_start.ensures ∙ c.in_err-start.was))

pub returns-in_err-start-clause-ends : goal.returns-in_err-start-clause-ends
returns-in_err-start-clause-ends c =
    rw c.from_residual.ensures
    (sym c.self.view_is ∙ no_word c.self.inside.rest.now
    (sym c.word_start.ensures ∙ c.in_err-start.was))
