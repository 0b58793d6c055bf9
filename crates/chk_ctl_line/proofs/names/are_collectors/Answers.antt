use Rattle.std.proofs.Common.{◌∙◌}
use Rattle.chk_ctl_line.proofs.WordLists.{words_fit}
use Rattle.chk_ctl_line.proofs.names.are_collectors.Goals as goal

pub returns-then-words-le-MOST_COLLECTORS : goal.returns-then-words-le-MOST_COLLECTORS
returns-then-words-le-MOST_COLLECTORS c =
    let fit = c.if-words-le-MOST_COLLECTORS.true in
    c.are_words.ensures ∙ words_fit _ fit.0 fit.1
