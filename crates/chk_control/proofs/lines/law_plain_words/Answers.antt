use Rattle.chk_control.proofs.PlainWords.{plain_words}
use Rattle.chk_control.proofs.lines.law_plain_words.Goals as goal

pub returns : goal.returns
returns c = plain_words
