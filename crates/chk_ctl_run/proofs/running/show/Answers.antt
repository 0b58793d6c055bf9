use Rattle.chk_site.specs.History.{Every}
use Rattle.chk_site.proofs.Runs.{adds_none}
use Rattle.chk_ctl_line.specs.Commands.{asked_of}
use Rattle.chk_ctl_run.specs.Calls.{IsOfAsked}
use Rattle.chk_ctl_run.specs.Runs.{unbegun}
use Rattle.chk_ctl_run.proofs.Checked.{no_cause}
use Rattle.chk_ctl_run.proofs.running.show.Goals as goal

pub returns-in-Err : goal.returns-in-Err
returns-in-Err g c = record {
  told = unbegun;
  own = adds_none (g.S.Site.told c.args.site.now) (Every (IsOfAsked (asked_of c.args.command.now)))
      (λ history. tt);
  cause = no_cause (asked_of c.args.command.now) (g.S.Site.fault_count c.args.site.now);
}
