use Rattle.std.proofs.Common.{Bool, List, ℕ, Ok, Err, ap, refl, subst}
use Rattle.chk_ctl_audit.specs.declared.audits.Compared.{Compared}
use Rattle.chk_ctl_audit.specs.Streams.{Audits}
use Rattle.chk_ctl_audit.proofs.Steps.{job_as}
use Rattle.chk_ctl_audit.proofs.audits.compare.Goals as goal

pub returns-in-Ok : goal.returns-in-Ok
returns-in-Ok g c =
    let given = Ok c.in-Ok.same in
    record {
      told = (
        given,
        subst (λ (ds : List (List ℕ)). Audits c.args.side.now given c.args.rests.now ds _
            (g.S.Site.told c.args.site.now) (g.S.Site.told c.audit_each.new.site))
            c.as_slice.ensures c.in-Ok.ensures.told,
        ap (λ (x : Compared). Ok x) c.compared_of.ensures,
        c.requires.count,
      );
      only = tt;
      cause = c.in-Ok.ensures.cause;
    }

pub returns-in-Err : goal.returns-in-Err
returns-in-Err g c =
    let fault = c.in-Err.fault in
    record {
      told = (
        Err fault,
        subst (λ (ds : List (List ℕ)). Audits c.args.side.now (Err fault) c.args.rests.now ds _
            (g.S.Site.told c.args.site.now) (g.S.Site.told c.audit_each.new.site))
            c.as_slice.ensures c.in-Err.ensures.told,
        refl,
        c.requires.count,
      );
      only = c.in-Err.ensures.only;
      cause = job_as Bool Compared fault (g.S.Site.fault_count c.args.site.now)
          (g.S.Site.fault_count c.audit_each.new.site) c.in-Err.ensures.cause;
    }
