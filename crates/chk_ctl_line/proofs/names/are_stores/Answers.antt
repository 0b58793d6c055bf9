use Rattle.std.proofs.Common.{◌∙◌}
use Rattle.chk_ctl_line.proofs.WordLists.{paths_fit}
use Rattle.chk_ctl_line.proofs.names.are_stores.Goals as goal

pub returns-then-words-le-MOST_STORES : goal.returns-then-words-le-MOST_STORES
returns-then-words-le-MOST_STORES c =
    let fit = c.if-words-le-MOST_STORES.true in
    c.are_paths.ensures ∙ paths_fit _ fit.0 fit.1
