use Rattle.chk_ctl_run.specs.Several.{store_missed, stores_told}
use Rattle.chk_ctl_run.proofs.StoreSteps.{looks_then}
use Rattle.chk_ctl_run.proofs.Found.{cause_then}
use Rattle.chk_ctl_run.proofs.several.show_stores.Goals as goal

pub returns-in-Ok : goal.returns-in-Ok
returns-in-Ok g c = record {
  told = stores_told c.in-Ok.stores.items c.in-Ok.ensures.told
      (rw c.as_slice.ensures.value at c.tell_stores.ensures.told);
  own = looks_then c.in-Ok.ensures.own c.tell_stores.ensures.own;
  cause = cause_then c.tell_stores.result (g.S.Site.fault_count c.args.site.now)
      (g.S.Site.fault_count c.find_stores.new.site) (g.S.Site.fault_count c.tell_stores.new.site)
      c.in-Ok.ensures.cause c.tell_stores.ensures.cause;
}

pub returns-in-Err : goal.returns-in-Err
returns-in-Err g c = record {
  told = store_missed c.in-Err.ensures.told;
  own = c.in-Err.ensures.own;
  cause = c.in-Err.ensures.cause;
}
