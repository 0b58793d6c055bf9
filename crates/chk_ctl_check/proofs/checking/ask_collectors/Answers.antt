use Rattle.std.proofs.Common.{Bool, Err, Ok, ap, refl}
use Rattle.chk_ctl_check.specs.declared.checking.Checked.{Checked}
use Rattle.chk_ctl_check.proofs.OwnCalls.{cause_behind, count_same}
use Rattle.chk_ctl_check.proofs.checking.ask_collectors.Goals as goal

pub returns-in-Ok : goal.returns-in-Ok
returns-in-Ok g c = record {
  told = record {
    given = Ok c.in-Ok.is_silent;
    asked = c.in-Ok.ensures.told;
    is = ap (λ r. Ok r) c.found_by.ensures;
  };
  own = c.check_collectors.ensures.own;
  cause = c.in-Ok.ensures.cause;
}

pub returns-in-Err : goal.returns-in-Err
returns-in-Err g c = record {
  told = record { given = Err c.in-Err.fault; asked = c.in-Err.ensures.told; is = refl };
  own = c.check_collectors.ensures.own;
  cause = cause_behind Checked Bool c.in-Err.fault (g.S.Site.fault_count c.args.site.now)
      (g.S.Site.fault_count c.args.site.now) (g.S.Site.fault_count c.check_collectors.new.site)
      (count_same refl) c.in-Err.ensures.cause;
}
