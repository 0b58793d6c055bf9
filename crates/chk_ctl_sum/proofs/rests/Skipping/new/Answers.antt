use Rattle.std.proofs.Common.{refl}
use Rattle.chk_ctl_sum.proofs.Skipped.{begun}
use Rattle.chk_ctl_sum.proofs.rests.Skipping.new.Goals as goal

pub returns : goal.returns
returns c = begun c.args.skip _ refl c.new-hasher.ensures
