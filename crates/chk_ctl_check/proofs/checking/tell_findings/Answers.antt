use Rattle.std.proofs.Common.{refl}
use Rattle.chk_ctl_check.specs.declared.checking.Checked.{Checked}
use Rattle.chk_ctl_check.specs.Checking.{told_all, untold}
use Rattle.chk_ctl_check.specs.Collectors.{SendsOrSays}
use Rattle.chk_ctl_check.proofs.OwnCalls.{cause_after, cause_of, count_same}
use Rattle.chk_ctl_check.proofs.OwnCalls.{own_then, prints_own}
use Rattle.chk_ctl_check.proofs.checking.tell_findings.Goals as goal

pub returns-in-Ok : goal.returns-in-Ok
returns-in-Ok g c = record {
  told = told_all (rw c.requires.job at c.in-Ok.ensures.told) c.ask_collectors.ensures.told;
  own = own_then SendsOrSays (prints_own c.requires.job c.in-Ok.ensures.told)
      c.ask_collectors.ensures.own;
  cause = cause_after c.ask_collectors.result (g.S.Site.fault_count c.args.site.now)
      (g.S.Site.fault_count c.print_findings.new.site)
      (g.S.Site.fault_count c.ask_collectors.new.site) (count_same c.in-Ok.ensures.cause)
      c.ask_collectors.ensures.cause;
}

pub returns-in-Err : goal.returns-in-Err
returns-in-Err g c = record {
  told = untold (rw c.requires.job at c.in-Err.ensures.told);
  own = prints_own c.requires.job c.in-Err.ensures.told;
  cause = cause_of Checked (Unit {0}) c.in-Err.fault (g.S.Site.fault_count c.args.site.now)
      (g.S.Site.fault_count c.args.site.now) (g.S.Site.fault_count c.print_findings.new.site)
      (count_same refl) c.in-Err.ensures.cause;
}
