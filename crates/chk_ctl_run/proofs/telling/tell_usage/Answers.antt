use Rattle.chk_ctl_run.proofs.Shown.{usage_one}
use Rattle.chk_ctl_run.proofs.telling.tell_usage.Goals as goal

pub tell-requires-clause-line : goal.tell-requires-clause-line
tell-requires-clause-line g c = rw c.text.ensures (usage_one c.args.usage)
