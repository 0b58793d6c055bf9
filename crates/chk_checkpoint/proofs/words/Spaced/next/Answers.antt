use Rattle.std.proofs.Common.{ap, sym, ◌∙◌, ◌∷◌, ◌+◌, ◌-◌, ◌≤◌, length, take, drop, length-drop, arith}
use Rattle.std.proofs.lemmas.List.{take_all}
use Rattle.chk_bytes.specs.Words.{parts_at}
use Rattle.chk_bytes.proofs.PartLemmas.{split_found, split_none, parts_at-front, parts_at-whole}
use Rattle.chk_checkpoint.specs.Fields.{rest_words}
use Rattle.chk_checkpoint.proofs.words.Spaced.next.Goals as goal

pub returns-in-Some-clause-some : goal.returns-in-Some-clause-some
returns-in-Some-clause-some c =
    let text = c.in_ok-rest.rest.now in
    let at = c.in-Some.at in
    let split = split_found 32 at text (sym c.first_space.ensures ∙ c.in-Some.is) in
    let fits : length (drop (at + 1) text) ≤ length text - (at + 1) = omega (arith, length-drop (at + 1) text) in
    sym c.self.view_is ∙ ap rest_words c.in_ok-rest.was ∙ ap (parts_at 32) split.whole
    ∙ parts_at-front 32 (take at text) (drop (at + 1) text) split.front_lacks
    ∙ ap (λ rest. take at text ∷ parts_at 32 rest) (sym (take_all (length text - (at + 1)) (drop (at + 1) text) fits))

pub returns-in-None-clause-some : goal.returns-in-None-clause-some
returns-in-None-clause-some c =
    sym c.self.view_is ∙ ap rest_words c.in_ok-rest.was
    ∙ parts_at-whole 32 c.in_ok-rest.rest.now (split_none 32 c.in_ok-rest.rest.now (sym c.first_space.ensures ∙ c.in-None.is))
