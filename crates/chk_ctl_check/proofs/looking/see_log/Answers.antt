use Rattle.std.proofs.Common.{refl}
use Rattle.chk_site.specs.History.{Every}
use Rattle.chk_site.proofs.Runs.{adds_none}
use Rattle.chk_world.specs.JobSteps.{IsOf}
use Rattle.chk_ctl_check.specs.Logs.{nowhere}
use Rattle.chk_ctl_check.specs.Looking.{AsksOfLogs}
use Rattle.chk_ctl_check.proofs.OwnCalls.{count_same}
use Rattle.chk_ctl_check.proofs.looking.see_log.Goals as goal

pub returns-in-None : goal.returns-in-None
returns-in-None g c = record {
  told = rw c.new.ensures.items (nowhere c.in-None.ensures.none);
  own = adds_none (g.S.Site.told c.args.site.now) (Every (IsOf AsksOfLogs)) (λ history. tt);
  count = count_same refl;
}
