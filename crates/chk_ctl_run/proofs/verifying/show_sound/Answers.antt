use Rattle.std.proofs.Common.{Err, refl}
use Rattle.chk_site.specs.History.{Every}
use Rattle.chk_site.specs.declared.acts.OutsideFault.TheVariants.{NoMemory as no_memory}
use Rattle.chk_site.proofs.Runs.{adds_none}
use Rattle.chk_world.specs.JobSteps.{IsOf}
use Rattle.chk_cmd_output.specs.Printing.{unprinted}
use Rattle.chk_ctl_streams.specs.Following.{LooksAgain}
use Rattle.chk_ctl_run.proofs.verifying.show_sound.Goals as goal

pub returns-in-Err : goal.returns-in-Err
returns-in-Err g c = record {
  told = record { given = Err no_memory; printed = unprinted; is = refl };
  own = adds_none (g.S.Site.told c.args.site.now) (Every (IsOf LooksAgain)) (λ history. tt);
  cause = refl;
}
