use Rattle.chk_ctl_verify.proofs.Causes.{cause_then, err_cause}
use Rattle.chk_ctl_verify.proofs.Seen.{ok_as}
use Rattle.chk_ctl_verify.proofs.Steps.{then_quiet}
use Rattle.chk_ctl_verify.specs.Files.{committed, uncommitted}
use Rattle.chk_ctl_verify.specs.declared.numbers.Held.{Held}
use Rattle.chk_ctl_verify.specs.declared.numbers.Held.TheVariants.{Nothing, Wrong}
use Rattle.std.proofs.Common.{Option, ℕ}
use Rattle.chk_ctl_verify.proofs.numbers.look_at_open.Goals as goal

pub returns-in-Ok-Number : goal.returns-in-Ok-Number
returns-in-Ok-Number g c =
    record {
      told = ok_as c.look_below.result (λ found x. committed c.in-Ok-Number.number (rw
          c.in-Ok-Number.field-0-is at c.in-Ok-Number.ensures.told) x) c.look_below.ensures.told;
      own = then_quiet c.in-Ok-Number.ensures.own c.look_below.ensures.own;
      cause = cause_then c.look_below.result (g.S.Site.fault_count c.args.site.now)
          (g.S.Site.fault_count c.read_number.new.site) (g.S.Site.fault_count
          c.look_below.new.site) c.in-Ok-Number.ensures.cause c.look_below.ensures.cause;
    }

pub returns-in-Ok-Nothing : goal.returns-in-Ok-Nothing
returns-in-Ok-Nothing g c =
    record {
      told = uncommitted Nothing (rw c.in-Ok-Nothing.field-0-is at c.in-Ok-Nothing.ensures.told) tt;
      own = c.in-Ok-Nothing.ensures.own;
      cause = c.in-Ok-Nothing.ensures.cause;
    }

pub returns-in-Ok-Wrong : goal.returns-in-Ok-Wrong
returns-in-Ok-Wrong g c =
    record {
      told = uncommitted Wrong (rw c.in-Ok-Wrong.field-0-is at c.in-Ok-Wrong.ensures.told) tt;
      own = c.in-Ok-Wrong.ensures.own;
      cause = c.in-Ok-Wrong.ensures.cause;
    }

pub returns-in-Err : goal.returns-in-Err
returns-in-Err g c =
    record {
      told = tt;
      own = c.in-Err.ensures.own;
      cause = err_cause Held (Option ℕ) c.in-Err.fault (g.S.Site.fault_count c.args.site.now)
          (g.S.Site.fault_count c.read_number.new.site) c.in-Err.ensures.cause;
    }
