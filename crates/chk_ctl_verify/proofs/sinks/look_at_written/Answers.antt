use Rattle.chk_ctl_verify.proofs.Steps.{no_quiet}
use Rattle.chk_ctl_verify.specs.Files.{OpenSeen}
use Rattle.chk_ctl_verify.specs.Names.{in_sinks}
use Rattle.std.proofs.Common.{List, refl, subst, ℕ}
use Rattle.std.specs.Prelude.{IfOk, codes}
use Rattle.chk_ctl_verify.proofs.sinks.look_at_written.Goals as goal

pub returns-in-Ok : goal.returns-in-Ok
returns-in-Ok g c =
    record {
      told = subst (λ (n : List ℕ). IfOk c.look_beside.result (λ found. OpenSeen (in_sinks
          c.args.stem.now (codes ".chukwa")) n found (g.S.Site.told c.args.site.now)
          (g.S.Site.told c.look_beside.new.site))) (c.in-Ok.ensures) c.look_beside.ensures.told;
      own = c.look_beside.ensures.own;
      cause = c.look_beside.ensures.cause;
    }

pub returns-in-Err : goal.returns-in-Err
returns-in-Err g c =
    record {
      told = tt;
      own = no_quiet (g.S.Site.told c.args.site.now);
      cause = refl;
    }
