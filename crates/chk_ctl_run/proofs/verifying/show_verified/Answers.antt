use Rattle.chk_ctl_verify.specs.declared.store.Store.{Store}
use Rattle.chk_ctl_run.specs.Verifying.{checked, unchecked}
use Rattle.chk_ctl_run.proofs.Found.{around_then, cause_then, err_cause}
use Rattle.chk_ctl_run.proofs.verifying.show_verified.Goals as goal

pub returns-in-Ok : goal.returns-in-Ok
returns-in-Ok g c =
    let store = c.in-Ok.store in
    record {
      told = checked store c.in-Ok.ensures.told c.show_found.ensures.told;
      own = around_then c.in-Ok.ensures.own c.show_found.ensures.own;
      cause = cause_then c.show_found.result (g.S.Site.fault_count c.args.site.now)
          (g.S.Site.fault_count c.check_store.new.site)
          (g.S.Site.fault_count c.show_found.new.site) c.in-Ok.ensures.cause
          c.show_found.ensures.cause;
    }

pub returns-in-Err : goal.returns-in-Err
returns-in-Err g c =
    rw c.told_as.ensures
    (record {
      told = unchecked c.in-Err.fault c.in-Err.ensures.told;
      own = c.in-Err.ensures.own;
      cause = err_cause Store c.in-Err.fault (g.S.Site.fault_count c.args.site.now)
          (g.S.Site.fault_count c.check_store.new.site) c.in-Err.ensures.cause;
    })
