use Rattle.std.proofs.Common.{Ok, Err, ap, refl}
use Rattle.chk_ctl_passed.specs.declared.judging.Verdict.{Verdict}
use Rattle.chk_ctl_passed.specs.Passing.{check_name}
use Rattle.chk_ctl_passed.proofs.Owned.{fault_cause, fault_only}
use Rattle.chk_ctl_passed.proofs.agents.weigh_agent.Goals as goal

pub returns-in-Ok : goal.returns-in-Ok
returns-in-Ok g c = record {
  told = (Ok c.in-Ok.more, c.in-Ok.ensures.told, ap (λ (v : Verdict). Ok v) c.both.ensures);
  only = tt;
  cause = c.in-Ok.ensures.cause;
}

pub returns-in-Err : goal.returns-in-Err
returns-in-Err g c =
    let name = check_name c.args.agent.now in
    record {
      told = (
        Err c.in-Err.fault,
        c.in-Err.ensures.told,
        (
          c.fault_in.result,
          c.fault_in.ensures.is,
          refl,
        ),
      );
      only = fault_only name c.in-Err.fault c.fault_in.result c.fault_in.ensures.is;
      cause = fault_cause Verdict Verdict name c.in-Err.fault c.fault_in.result
          (g.S.Site.fault_count c.args.site.now) (g.S.Site.fault_count c.has_passed.new.site)
          c.fault_in.ensures.is c.in-Err.ensures.cause;
    }
