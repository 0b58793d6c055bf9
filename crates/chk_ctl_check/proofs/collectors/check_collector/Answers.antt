use Rattle.chk_ctl_check.specs.Collectors.{SendsOrSays, answers, asks, is_silent}
use Rattle.chk_ctl_check.specs.Collectors.{unasked}
use Rattle.chk_ctl_check.proofs.OwnCalls.{own_then, own_wider, prints_own}
use Rattle.chk_ctl_check.proofs.SilentLines.{silent_cause}
use Rattle.chk_ctl_check.proofs.collectors.check_collector.Goals as goal

pub returns-in-Ok-true : goal.returns-in-Ok-true
returns-in-Ok-true g c =
    let asked = rw c.in-Ok-true.field-0-test at c.in-Ok-true.ensures.told in
    let told = c.print_silent.ensures.told in
    rw c.silent_by.ensures
    (record {
      told = is_silent c.print_silent.result asked (rw c.requires.job at told);
      own = own_then SendsOrSays (own_wider SendsOrSays asks c.is_silent.ensures.own)
          (prints_own c.requires.job told);
      cause = silent_cause c.print_silent.result (g.S.Site.fault_count c.args.site.now)
          (g.S.Site.fault_count c.is_silent.new.site)
          (g.S.Site.fault_count c.print_silent.new.site) c.is_silent.ensures.count
          c.print_silent.ensures.cause;
    })

pub returns-in-Ok-false : goal.returns-in-Ok-false
returns-in-Ok-false g c = record {
  told = answers (rw c.in-Ok-false.field-0-test at c.in-Ok-false.ensures.told);
  own = own_wider SendsOrSays asks c.is_silent.ensures.own;
  cause = c.is_silent.ensures.count;
}

pub returns-in-Err : goal.returns-in-Err
returns-in-Err g c = record {
  told = unasked c.is_silent.ensures.own;
  own = own_wider SendsOrSays asks c.is_silent.ensures.own;
  cause = c.is_silent.ensures.count;
}
