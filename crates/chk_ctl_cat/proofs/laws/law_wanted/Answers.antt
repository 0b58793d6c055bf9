use Rattle.chk_ctl_cat.proofs.Wanted.{wanted_held}
use Rattle.chk_ctl_cat.proofs.laws.law_wanted.Goals as goal

pub returns : goal.returns
returns c = wanted_held
