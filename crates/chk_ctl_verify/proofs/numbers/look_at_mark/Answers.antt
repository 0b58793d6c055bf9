use Rattle.chk_ctl_verify.proofs.Causes.{cause_then, err_cause}
use Rattle.chk_ctl_verify.proofs.Seen.{ok_as}
use Rattle.chk_ctl_verify.proofs.Steps.{then_quiet}
use Rattle.chk_ctl_verify.specs.Files.{marked, unmarked, wrong}
use Rattle.chk_ctl_verify.specs.declared.numbers.Held.{Held}
use Rattle.std.proofs.Common.{Option, ℕ}
use Rattle.chk_ctl_verify.proofs.numbers.look_at_mark.Goals as goal

pub returns-in-Ok-Number : goal.returns-in-Ok-Number
returns-in-Ok-Number g c =
    record {
      told = ok_as c.is_past.result (λ found x. marked c.in-Ok-Number.number (rw
          c.in-Ok-Number.field-0-is at c.in-Ok-Number.ensures.told) x) c.is_past.ensures.told;
      own = then_quiet c.in-Ok-Number.ensures.own c.is_past.ensures.own;
      cause = cause_then c.is_past.result (g.S.Site.fault_count c.args.site.now)
          (g.S.Site.fault_count c.read_number.new.site) (g.S.Site.fault_count c.is_past.new.site)
          c.in-Ok-Number.ensures.cause c.is_past.ensures.cause;
    }

pub returns-in-Ok-Nothing : goal.returns-in-Ok-Nothing
returns-in-Ok-Nothing g c =
    record {
      told = unmarked (rw c.in-Ok-Nothing.field-0-is at c.in-Ok-Nothing.ensures.told);
      own = c.in-Ok-Nothing.ensures.own;
      cause = c.in-Ok-Nothing.ensures.cause;
    }

pub returns-in-Ok-Wrong : goal.returns-in-Ok-Wrong
returns-in-Ok-Wrong g c =
    record {
      told = wrong (rw c.in-Ok-Wrong.field-0-is at c.in-Ok-Wrong.ensures.told);
      own = c.in-Ok-Wrong.ensures.own;
      cause = c.in-Ok-Wrong.ensures.cause;
    }

pub returns-in-Err : goal.returns-in-Err
returns-in-Err g c =
    record {
      told = tt;
      own = c.in-Err.ensures.own;
      cause = err_cause Held (Option ℕ) c.in-Err.fault (g.S.Site.fault_count c.args.site.now)
          (g.S.Site.fault_count c.read_number.new.site) c.in-Err.ensures.cause;
    }
