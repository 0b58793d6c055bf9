use Rattle.chk_ctl_check.specs.Checking.{ChecksBy, asks_of_logs, found_so, sends_or_says, unfound}
use Rattle.chk_ctl_check.proofs.OwnCalls.{cause_after, own_then, own_wider}
use Rattle.chk_ctl_check.proofs.checking.check_text.Goals as goal

pub returns-in-Ok : goal.returns-in-Ok
returns-in-Ok g c = record {
  told = found_so c.in-Ok.findings.items c.in-Ok.ensures.told
      (rw c.deref.ensures.value at c.tell_findings.ensures.told);
  own = own_then ChecksBy (own_wider ChecksBy asks_of_logs c.find_troubles.ensures.own)
      (own_wider ChecksBy sends_or_says c.tell_findings.ensures.own);
  cause = cause_after c.tell_findings.result (g.S.Site.fault_count c.args.site.now)
      (g.S.Site.fault_count c.find_troubles.new.site)
      (g.S.Site.fault_count c.tell_findings.new.site) c.find_troubles.ensures.count
      c.tell_findings.ensures.cause;
}

pub returns-in-Err : goal.returns-in-Err
returns-in-Err g c = record {
  told = unfound c.find_troubles.ensures.own;
  own = own_wider ChecksBy asks_of_logs c.find_troubles.ensures.own;
  cause = c.find_troubles.ensures.count;
}
