use Rattle.std.proofs.Common.{Bool, List, subst, ℕ}
use Rattle.chk_ctl_verify.specs.Calls.{HasNames}
use Rattle.chk_ctl_verify.specs.Walks.{listed, unlisted}
use Rattle.chk_ctl_verify.proofs.Causes.{cause_then, err_cause}
use Rattle.chk_ctl_verify.proofs.Steps.{quiet_own, then_own}
use Rattle.chk_ctl_verify.proofs.folders.check_place.Goals as goal

pub returns-in-Ok : goal.returns-in-Ok
returns-in-Ok g c = record {
  told = listed c.in-Ok.names.items
      (subst (λ (f : List ℕ). HasNames f c.in-Ok.names.items (g.S.Site.told c.args.site.now)
      (g.S.Site.told c.names_in.new.site)) c.folder.ensures c.in-Ok.ensures.told)
      (rw c.as_slice.ensures.value at c.check_names.ensures.told);
  own = then_own (quiet_own c.in-Ok.ensures.own) c.check_names.ensures.own;
  cause = cause_then c.check_names.result (g.S.Site.fault_count c.args.site.now)
      (g.S.Site.fault_count c.names_in.new.site) (g.S.Site.fault_count c.check_names.new.site)
      c.in-Ok.ensures.cause c.check_names.ensures.cause;
}

pub returns-in-Err : goal.returns-in-Err
returns-in-Err g c = record {
  told = unlisted c.in-Err.fault c.in-Err.ensures.own;
  own = quiet_own c.in-Err.ensures.own;
  cause = err_cause (List (List ℕ)) Bool c.in-Err.fault (g.S.Site.fault_count c.args.site.now)
      (g.S.Site.fault_count c.names_in.new.site) c.in-Err.ensures.cause;
}
