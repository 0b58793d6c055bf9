use Rattle.chk_acks.proofs.History.{leads_contiguous}
use Rattle.chk_acks.proofs.laws.law_committed_is_contiguous.Goals as goal

pub returns : goal.returns
returns c = leads_contiguous
