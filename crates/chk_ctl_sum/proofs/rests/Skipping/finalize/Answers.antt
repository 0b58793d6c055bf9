use Rattle.std.proofs.Common.{drop}
use Rattle.chk_ctl_sum.proofs.rests.Skipping.finalize.Goals as goal

pub returns : goal.returns
returns c skip taken h = c.finalize.ensures (drop skip taken) h.holds
