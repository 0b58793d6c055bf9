use Rattle.chk_ctl_verify.proofs.Causes.{cause_then}
use Rattle.chk_ctl_verify.proofs.Seen.{ok_as}
use Rattle.chk_ctl_verify.proofs.Steps.{then_quiet}
use Rattle.chk_ctl_verify.specs.Names.{again, once}
use Rattle.chk_ctl_verify.proofs.folders.find_in.Goals as goal

pub returns-in-Ok-Some : goal.returns-in-Ok-Some
returns-in-Ok-Some g c =
    record {
      told = ok_as c.look_again.result (λ found x. again _ (rw c.in-Ok-Some.field-0-is at
          c.in-Ok-Some.ensures.told) x) c.look_again.ensures.told;
      own = then_quiet c.in-Ok-Some.ensures.own c.look_again.ensures.own;
      cause = cause_then c.look_again.result (g.S.Site.fault_count c.args.site.now)
          (g.S.Site.fault_count c.look_in.new.site) (g.S.Site.fault_count c.look_again.new.site)
          c.in-Ok-Some.ensures.cause c.look_again.ensures.cause;
    }

pub returns-in-Ok-None : goal.returns-in-Ok-None
returns-in-Ok-None g c =
    record {
      told = once (rw c.in-Ok-None.field-0-is at c.in-Ok-None.ensures.told);
      own = c.in-Ok-None.ensures.own;
      cause = c.in-Ok-None.ensures.cause;
    }

pub returns-in-Err : goal.returns-in-Err
returns-in-Err g c =
    record {
      told = tt;
      own = c.in-Err.ensures.own;
      cause = c.in-Err.ensures.cause;
    }
