use Rattle.chk_ctl_verify.proofs.Causes.{err_cause}
use Rattle.chk_ctl_verify.specs.declared.numbers.Held.{Held}
use Rattle.std.proofs.Common.{Option, ℕ}
use Rattle.chk_ctl_verify.proofs.numbers.look_at_number.Goals as goal

pub returns-in-Ok : goal.returns-in-Ok
returns-in-Ok g c =
    record {
      told = record {
        held = c.in-Ok.held;
        read = c.in-Ok.ensures.told;
        is =
            c.wrong_number.ensures;
      };
      own = c.in-Ok.ensures.own;
      cause = c.in-Ok.ensures.cause;
    }

pub returns-in-Err : goal.returns-in-Err
returns-in-Err g c =
    record {
      told = tt;
      own = c.in-Err.ensures.own;
      cause = err_cause Held (Option ℕ) c.in-Err.fault (g.S.Site.fault_count c.args.site.now)
          (g.S.Site.fault_count c.read_number.new.site) c.in-Err.ensures.cause;
    }
