use Rattle.chk_control.proofs.AcceptedLemmas.{known_command}
use Rattle.chk_control.proofs.lines.read_line.Goals as goal

pub returns-clause-known : goal.returns-clause-known
returns-clause-known c = known_command c.new.result c.read_words.result c.read_words.ensures
