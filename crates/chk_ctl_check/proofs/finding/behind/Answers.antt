use Rattle.chk_ctl_check.proofs.Split.{sliced}
use Rattle.chk_ctl_check.proofs.finding.behind.Goals as goal

pub returns : goal.returns
returns c = sliced c.args.at c.args.text.now
