use Rattle.std.proofs.Common.{Ok, refl, subst}
use Rattle.chk_site.specs.History.{Every}
use Rattle.chk_site.proofs.Runs.{adds_none}
use Rattle.chk_world.specs.JobSteps.{IsOf}
use Rattle.chk_ctl_cat.specs.declared.stream.Came.{Came}
use Rattle.chk_ctl_cat.specs.Faults.{FailsLast}
use Rattle.chk_ctl_streams.specs.Following.{HasShort, LooksAgain, no_wait, waited_on}
use Rattle.chk_ctl_streams.proofs.Again.{waits_again, waits_last, waits_cause}
use Rattle.chk_ctl_streams.proofs.following.wait_after.Goals as goal

pub returns-then-is_short : goal.returns-then-is_short
returns-then-is_short g c = record {
  told = no_wait (subst (λ b. HasShort b c.args.came) c.if-is_short.true c.is_short.ensures);
  own = adds_none (g.S.Site.told c.args.site.now) (Every (IsOf LooksAgain)) (λ history. tt);
  last = adds_none (g.S.Site.told c.args.site.now) (FailsLast {T = Came} (Ok c.args.came))
      (λ history. tt);
  cause = refl;
}

pub returns : goal.returns
returns g c =
    rw c.after_wait.ensures
    (record {
      told = waited_on (subst (λ b. HasShort b c.args.came) c.if-is_short.false c.is_short.ensures)
          c.wait-waited.ensures.told;
      own = waits_again c.wait-waited.ensures.told;
      last = waits_last c.args.came c.wait-waited.result c.wait-waited.ensures.told;
      cause = waits_cause c.args.came c.wait-waited.result (g.S.Site.fault_count c.args.site.now)
          (g.S.Site.fault_count c.wait-waited.new.site) c.wait-waited.ensures.cause;
    })
