use Rattle.std.proofs.Common.{List, [], Ok, Err, ap, map, refl, subst, sym}
use Rattle.std.proofs.lemmas.Result.{err_from_is_err_and}
use Rattle.chk_book.specs.Views.{end_view}
use Rattle.chk_ctl_sum.specs.declared.rests.Rest.{Rest}
use Rattle.chk_ctl_audit.specs.declared.audits.Compared.{Compared}
use Rattle.chk_ctl_audit.specs.Finding.{FindsEach}
use Rattle.chk_ctl_audit.proofs.Steps.{job_as, job_then}
use Rattle.chk_ctl_audit.proofs.audits.audit_book.Goals as goal

pub returns : goal.returns
returns g c =
    let given = Ok c.in_ok-find_rests.field-0 in
    let ends = c.as_slice-ends.result.now in
    let old = g.S.Site.told c.args.site.now in
    let mid = g.S.Site.told c.find_rests.new.site in
    record {
      told = record {
        ends = ends;
        are = ap (map end_view) c.as_slice-ends.ensures;
        rests = c.as_slice.result.now;
        given = given;
        middle = mid;
        found = subst (λ (rs : List Rest). FindsEach given rs ends [] old mid)
            (sym c.as_slice.ensures.value)
            (subst (λ (rs : List Rest). FindsEach given c.find_rests.new.rests.items ends rs old mid)
            c.new-rests.ensures.items c.in_ok-find_rests.ensures.told);
        audited = c.audit_rests.ensures.told;
      };
      only = c.audit_rests.ensures.only;
      cause = job_then c.audit_rests.result (g.S.Site.fault_count c.args.site.now)
          (g.S.Site.fault_count c.find_rests.new.site)
          (g.S.Site.fault_count c.audit_rests.new.site) c.in_ok-find_rests.ensures.cause
          c.audit_rests.ensures.cause;
    }

pub returns-in_err-find_rests : goal.returns-in_err-find_rests
returns-in_err-find_rests g c =
    let p = err_from_is_err_and c.from_residual.result c.from_residual.ensures.1 in
    let fault = c.in_err-find_rests.field-0.0 in
    let ends = c.as_slice-ends.result.now in
    let old = g.S.Site.told c.args.site.now in
    let mid = g.S.Site.told c.find_rests.new.site in
    rw (p.1, p.2)
    (record {
      told = record {
        ends = ends;
        are = ap (map end_view) c.as_slice-ends.ensures;
        rests = c.find_rests.new.rests.items;
        given = Err fault;
        middle = mid;
        found = subst
            (λ (rs : List Rest). FindsEach (Err fault) c.find_rests.new.rests.items ends rs old mid)
            c.new-rests.ensures.items c.in_err-find_rests.ensures.told;
        audited = (refl, refl);
      };
      only = c.in_err-find_rests.ensures.only;
      cause = job_as (Unit {0}) Compared fault (g.S.Site.fault_count c.args.site.now)
          (g.S.Site.fault_count c.find_rests.new.site) c.in_err-find_rests.ensures.cause;
    })
