use Rattle.chk_ctl_streams.proofs.NewestWanted.{newest_have}
use Rattle.chk_ctl_streams.proofs.laws.law_newest.Goals as goal

pub returns : goal.returns
returns c = newest_have
