use Rattle.chk_tee.proofs.FilterLemmas.{one_filter}
use Rattle.chk_tee.proofs.laws.one_filter.Goals as goal

pub returns : goal.returns
returns c = one_filter
