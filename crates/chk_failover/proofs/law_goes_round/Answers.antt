use Rattle.chk_failover.proofs.Rounds.{goes_round}
use Rattle.chk_failover.proofs.law_goes_round.Goals as goal

pub returns : goal.returns
returns c = goes_round
