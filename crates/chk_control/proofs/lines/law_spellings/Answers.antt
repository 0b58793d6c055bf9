use Rattle.chk_control.proofs.SpelledLemmas.{spelled_read}
use Rattle.chk_control.proofs.lines.law_spellings.Goals as goal

pub returns : goal.returns
returns c = spelled_read
