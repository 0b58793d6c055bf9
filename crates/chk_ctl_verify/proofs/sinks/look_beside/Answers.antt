use Rattle.chk_ctl_verify.proofs.Steps.{no_quiet}
use Rattle.chk_ctl_verify.specs.Files.{OpenSeen}
use Rattle.std.proofs.Common.{List, refl, subst, ℕ}
use Rattle.std.specs.Prelude.{IfOk}
use Rattle.chk_ctl_verify.proofs.sinks.look_beside.Goals as goal

pub returns-in-Ok : goal.returns-in-Ok
returns-in-Ok g c =
    record {
      told = subst (λ (n : List ℕ). IfOk c.look_at_words.result (λ found. OpenSeen n
          c.args.mark.now found (g.S.Site.told c.args.site.now) (g.S.Site.told
          c.look_at_words.new.site))) (c.in-Ok.ensures) c.look_at_words.ensures.told;
      own = c.look_at_words.ensures.own;
      cause = c.look_at_words.ensures.cause;
    }

pub returns-in-Err : goal.returns-in-Err
returns-in-Err g c =
    record {
      told = tt;
      own = no_quiet (g.S.Site.told c.args.site.now);
      cause = refl;
    }
