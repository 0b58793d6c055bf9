use Rattle.chk_ctl_run.specs.Finding.{in_store, not_found}
use Rattle.chk_ctl_run.proofs.Found.{found_own, found_then, cause_then}
use Rattle.chk_ctl_run.proofs.verifying.show_archive.Goals as goal

pub returns-in-Ok : goal.returns-in-Ok
returns-in-Ok g c = record {
  told = in_store c.in-Ok.ensures.told c.show_rest.ensures.told;
  own = found_then c.in-Ok.ensures.told.found.quiet c.show_rest.ensures.own;
  cause = cause_then c.show_rest.result (g.S.Site.fault_count c.args.site.now)
      (g.S.Site.fault_count c.find_archive.new.site) (g.S.Site.fault_count c.show_rest.new.site)
      c.in-Ok.ensures.cause c.show_rest.ensures.cause;
}

pub returns-in-Err : goal.returns-in-Err
returns-in-Err g c = record {
  told = not_found c.in-Err.ensures.told;
  own = found_own c.in-Err.ensures.told.found.quiet;
  cause = c.in-Err.ensures.cause;
}
