use Rattle.chk_ctl_verify.proofs.Causes.{err_cause}
use Rattle.chk_ctl_verify.proofs.Lines.{line_told}
use Rattle.chk_ctl_verify.proofs.Said.{prints_own}
use Rattle.std.proofs.Common.{Bool, refl}
use Rattle.chk_ctl_verify.proofs.telling.say_line.Goals as goal

pub returns-in-Ok : goal.returns-in-Ok
returns-in-Ok g c =
    record {
      told = (refl, line_told c.requires.job c.as_bytes.ensures.value c.in-Ok.ensures.told);
      own = prints_own c.requires.job c.in-Ok.ensures.told;
      cause = c.in-Ok.ensures.cause;
    }

pub returns-in-Err : goal.returns-in-Err
returns-in-Err g c =
    record {
      told = line_told c.requires.job c.as_bytes.ensures.value c.in-Err.ensures.told;
      own = prints_own c.requires.job c.in-Err.ensures.told;
      cause = err_cause (Unit {0}) Bool c.in-Err.fault (g.S.Site.fault_count c.args.site.now)
          (g.S.Site.fault_count c.print_line.new.site) c.in-Err.ensures.cause;
    }
