use Rattle.std.proofs.Common.{Bool, Ok, Err, refl, subst}
use Rattle.chk_site.specs.declared.acts.Who.{Who}
use Rattle.chk_ctl_audit_log.specs.declared.summing.LogSum.{LogSum}
use Rattle.chk_ctl_audit_log.specs.Summing.{SummedLog}
use Rattle.chk_ctl_audit.proofs.Steps.{call_cause, job_then, of_call}
use Rattle.chk_ctl_audit.proofs.streams.audit_stream.Goals as goal

pub returns-in-Ok : goal.returns-in-Ok
returns-in-Ok g c =
    let old = g.S.Site.told c.args.site.now in
    let mid = g.S.Site.told c.sum_log.new.site in
    let r = c.args.rest.now in
    let e = r.end.now in
    record {
      told = record {
        given = Ok c.in-Ok.found;
        middle = mid;
        summed = subst (λ (w : Who). SummedLog w e.name r.begin e.start e.end (Ok c.in-Ok.found)
            old mid) c.requires.job c.in-Ok.ensures.told;
        own = c.in-Ok.ensures.own;
        told = c.part_stream.ensures.told;
      };
      only = c.part_stream.ensures.only;
      cause = job_then c.part_stream.result (g.S.Site.fault_count c.args.site.now)
          (g.S.Site.fault_count c.sum_log.new.site) (g.S.Site.fault_count c.part_stream.new.site)
          c.in-Ok.ensures.cause c.part_stream.ensures.cause;
    }

pub returns-in-Err : goal.returns-in-Err
returns-in-Err g c =
    let old = g.S.Site.told c.args.site.now in
    let mid = g.S.Site.told c.sum_log.new.site in
    let r = c.args.rest.now in
    let e = r.end.now in
    rw c.from.ensures
    (record {
      told = record {
        given = Err c.in-Err.fault;
        middle = mid;
        summed = subst (λ (w : Who). SummedLog w e.name r.begin e.start e.end (Err c.in-Err.fault)
            old mid) c.requires.job c.in-Err.ensures.told;
        own = c.in-Err.ensures.own;
        told = (refl, refl);
      };
      only = of_call c.in-Err.fault;
      cause = call_cause LogSum Bool c.in-Err.fault (g.S.Site.fault_count c.args.site.now)
          (g.S.Site.fault_count c.sum_log.new.site) c.in-Err.ensures.cause;
    })
