use Rattle.std.proofs.Common.{Bool, Ok, Err, refl}
use Rattle.chk_ctl_passed.proofs.Joined.{cause_as}
use Rattle.chk_ctl_audit.proofs.Steps.{printed_by}
use Rattle.chk_ctl_audit.proofs.streams.say_line.Goals as goal

pub returns-in-Ok : goal.returns-in-Ok
returns-in-Ok g c = record {
  told = record {
    given = Ok c.in-Ok.field-0;
    printed = printed_by c.requires.job refl c.in-Ok.ensures.told;
    is = refl;
  };
  cause = c.in-Ok.ensures.cause;
}

pub returns-in-Err : goal.returns-in-Err
returns-in-Err g c = record {
  told = record {
    given = Err c.in-Err.fault;
    printed = printed_by c.requires.job refl c.in-Err.ensures.told;
    is = refl;
  };
  cause = cause_as (Unit {0}) Bool c.in-Err.fault (g.S.Site.fault_count c.args.site.now)
      (g.S.Site.fault_count c.print_line.new.site) c.in-Err.ensures.cause;
}
