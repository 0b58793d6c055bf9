use Rattle.std.proofs.Common.{refl}
use Rattle.chk_site.specs.History.{Every}
use Rattle.chk_site.proofs.Runs.{adds_none}
use Rattle.chk_world.specs.JobSteps.{IsOf}
use Rattle.chk_ctl_streams.specs.Following.{LooksAgain}
use Rattle.chk_ctl_run.proofs.verifying.show_found.Goals as goal

pub returns-then-store : goal.returns-then-store
returns-then-store g c = record {
  told = rw c.if-store.true (refl, refl);
  own = adds_none (g.S.Site.told c.args.site.now) (Every (IsOf LooksAgain)) (λ history. tt);
  cause = refl;
}

pub returns : goal.returns
returns g c = record {
  told = rw c.if-store.false c.show_archive.ensures.told;
  own = c.show_archive.ensures.own;
  cause = c.show_archive.ensures.cause;
}
