use Rattle.std.proofs.Common.{Ok, Err, refl}
use Rattle.chk_checkpoint.specs.declared.Checkpoint.{Checkpoint}
use Rattle.chk_ctl_passed.specs.Passing.{check_name}
use Rattle.chk_ctl_passed.proofs.Owned.{fault_cause, fault_only}
use Rattle.chk_ctl_audit.proofs.Steps.{job_then}
use Rattle.chk_ctl_audit.proofs.agents.find_by.Goals as goal

pub returns-in-Ok : goal.returns-in-Ok
returns-in-Ok g c = record {
  told = record {
    given = Ok c.in-Ok.check;
    middle = g.S.Site.told c.load_checkpoint.new.site;
    loaded = λ file small. c.in-Ok.ensures.whole file small;
    reads = c.in-Ok.ensures.reads;
    followed = c.find_lines.ensures.told;
  };
  only = c.find_lines.ensures.only;
  cause = job_then c.find_lines.result (g.S.Site.fault_count c.args.site.now)
      (g.S.Site.fault_count c.load_checkpoint.new.site)
      (g.S.Site.fault_count c.find_lines.new.site) c.in-Ok.ensures.cause
      c.find_lines.ensures.cause;
}

pub returns-in-Err : goal.returns-in-Err
returns-in-Err g c =
    let name = check_name c.args.agent.now in
    let is = c.fault_in.ensures.is in
    record {
      told = record {
        given = Err c.in-Err.fault;
        middle = g.S.Site.told c.load_checkpoint.new.site;
        loaded = λ file small. c.in-Err.ensures.whole file small;
        reads = c.in-Err.ensures.reads;
        followed = (refl, (c.fault_in.result, is, refl));
      };
      only = fault_only name c.in-Err.fault c.fault_in.result is;
      cause = fault_cause Checkpoint (Unit {0}) name c.in-Err.fault c.fault_in.result
          (g.S.Site.fault_count c.args.site.now) (g.S.Site.fault_count c.load_checkpoint.new.site)
          is c.in-Err.ensures.cause;
    }
