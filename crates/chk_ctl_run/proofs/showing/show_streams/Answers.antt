use Rattle.chk_ctl_run.specs.Finding.{in_store, not_found}
use Rattle.chk_ctl_run.proofs.Found.{found_own, found_then, cause_then}
use Rattle.chk_ctl_run.proofs.showing.show_streams.Goals as goal

pub returns-in-Ok : goal.returns-in-Ok
returns-in-Ok g c = record {
  told = in_store c.in-Ok.ensures.told c.list_streams.ensures.told;
  own = found_then c.in-Ok.ensures.told.found.quiet c.list_streams.ensures.own;
  cause = cause_then c.list_streams.result (g.S.Site.fault_count c.args.site.now)
      (g.S.Site.fault_count c.find_archive.new.site) (g.S.Site.fault_count c.list_streams.new.site)
      c.in-Ok.ensures.cause c.list_streams.ensures.cause;
}

pub returns-in-Err : goal.returns-in-Err
returns-in-Err g c = record {
  told = not_found c.in-Err.ensures.told;
  own = found_own c.in-Err.ensures.told.found.quiet;
  cause = c.in-Err.ensures.cause;
}
