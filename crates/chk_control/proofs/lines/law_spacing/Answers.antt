use Rattle.std.proofs.Common.{◌∙◌, arith}
use Rattle.chk_control.specs.LineWords.{words_of, without_return}
use Rattle.chk_control.proofs.SpacedLemmas.{meaning_of_spaced, line_size}
use Rattle.chk_control.proofs.AcceptedLemmas.{line_accepted, words_accepted}
use Rattle.chk_control.proofs.lines.law_spacing.Goals as goal

pub returns : goal.returns
returns c line command accepted =
    let words = words_of (without_return line) in
    let whole = line_accepted line command accepted in
    let good = words_accepted words command whole.1 in
    meaning_of_spaced words good.words_are (omega (arith, line_size line, whole.0)) ∙ whole.1
