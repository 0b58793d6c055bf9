use Rattle.std.proofs.Common.{◌∙◌}
use Rattle.chk_cmd_line.proofs.NameLemmas.{words_fit}
use Rattle.chk_cmd_line.proofs.names.are_words.Goals as goal

pub returns-then-words-most : goal.returns-then-words-most
returns-then-words-most c =
    c.are_all_words.ensures ∙ words_fit _ _ _ c.if-words-most.true.0 c.if-words-most.true.1
