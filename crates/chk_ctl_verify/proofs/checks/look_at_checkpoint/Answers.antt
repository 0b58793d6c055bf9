use Rattle.chk_ctl_verify.proofs.Steps.{no_quiet}
use Rattle.chk_ctl_verify.specs.Files.{CheckSeen}
use Rattle.std.proofs.Common.{List, refl, subst, ℕ}
use Rattle.std.specs.Prelude.{IfOk}
use Rattle.chk_ctl_verify.proofs.checks.look_at_checkpoint.Goals as goal

pub returns-in-Ok : goal.returns-in-Ok
returns-in-Ok g c =
    record {
      told = subst (λ (n : List ℕ). IfOk c.look_as.result (λ found. CheckSeen n found
          (g.S.Site.told c.args.site.now) (g.S.Site.told c.look_as.new.site))) (c.in-Ok.ensures)
          c.look_as.ensures.told;
      own = c.look_as.ensures.own;
      cause = c.look_as.ensures.cause;
    }

pub returns-in-Err : goal.returns-in-Err
returns-in-Err g c =
    record {
      told = tt;
      own = no_quiet (g.S.Site.told c.args.site.now);
      cause = refl;
    }
