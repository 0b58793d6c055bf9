use Rattle.chk_bytes.proofs.FaultLemmas.{is_word-from_faultless, faultless-from_is_word}
use Rattle.chk_bytes.proofs.laws.word_is_faultless.Goals as goal

pub returns : goal.returns
returns c = λ text. (is_word-from_faultless text, faultless-from_is_word text)
