use Rattle.chk_ctl_run.proofs.Shown.{version_one}
use Rattle.chk_ctl_run.proofs.telling.tell_version.Goals as goal

pub tell-requires-clause-line : goal.tell-requires-clause-line
tell-requires-clause-line g c = version_one
