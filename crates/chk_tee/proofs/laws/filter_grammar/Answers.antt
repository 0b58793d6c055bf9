use Rattle.chk_tee.proofs.FilterLemmas.{filter_read, read_filter_back}
use Rattle.chk_tee.proofs.laws.filter_grammar.Goals as goal

pub returns : goal.returns
returns c f text = (filter_read f text, read_filter_back f text)
