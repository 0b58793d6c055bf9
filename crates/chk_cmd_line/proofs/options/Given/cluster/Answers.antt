use Rattle.chk_cmd_line.proofs.NameLemmas.{none_is_word}
use Rattle.chk_cmd_line.proofs.options.Given.cluster.Goals as goal

pub returns-in-None-clause-word : goal.returns-in-None-clause-word
returns-in-None-clause-word c = none_is_word
