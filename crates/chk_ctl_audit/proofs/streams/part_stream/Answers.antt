use Rattle.std.proofs.Common.{Bool, ℕ, Option, Ok, Err, refl, subst}
use Rattle.chk_ctl_audit.specs.Streams.{FindsParts}
use Rattle.chk_ctl_audit.proofs.Steps.{call_cause, job_as, job_then, of_call}
use Rattle.chk_ctl_audit.proofs.streams.part_stream.Goals as goal

pub returns-in-Ok-tell_stream : goal.returns-in-Ok-tell_stream
returns-in-Ok-tell_stream g c =
    let old = g.S.Site.told c.args.site.now in
    let mid = g.S.Site.told c.find_parts.new.site in
    record {
      told = record {
        given = Ok c.in-Ok.parts;
        middle = mid;
        finds = subst (λ (b : Bool). FindsParts b c.args.side.now c.args.rest.now (Ok c.in-Ok.parts)
            old mid) c.has_all.ensures c.in-Ok.ensures.told;
        told = (Ok c.in-Ok-tell_stream.same, c.in-Ok-tell_stream.ensures.told, refl);
      };
      only = tt;
      cause = job_then {T = Bool} (Ok c.in-Ok-tell_stream.same)
          (g.S.Site.fault_count c.args.site.now) (g.S.Site.fault_count c.find_parts.new.site)
          (g.S.Site.fault_count c.tell_stream.new.site) c.in-Ok.ensures.cause
          c.in-Ok-tell_stream.ensures.cause;
    }

pub returns-in-Err-tell_stream : goal.returns-in-Err-tell_stream
returns-in-Err-tell_stream g c =
    let old = g.S.Site.told c.args.site.now in
    let mid = g.S.Site.told c.find_parts.new.site in
    let fault = c.in-Err-tell_stream.fault in
    rw c.from.ensures
    (record {
      told = record {
        given = Ok c.in-Ok.parts;
        middle = mid;
        finds = subst (λ (b : Bool). FindsParts b c.args.side.now c.args.rest.now (Ok c.in-Ok.parts)
            old mid) c.has_all.ensures c.in-Ok.ensures.told;
        told = (Err fault, c.in-Err-tell_stream.ensures.told, refl);
      };
      only = of_call fault;
      cause = job_then {T = Bool} (Err _) (g.S.Site.fault_count c.args.site.now)
          (g.S.Site.fault_count c.find_parts.new.site)
          (g.S.Site.fault_count c.tell_stream.new.site) c.in-Ok.ensures.cause
          (call_cause Bool Bool fault (g.S.Site.fault_count c.find_parts.new.site)
          (g.S.Site.fault_count c.tell_stream.new.site) c.in-Err-tell_stream.ensures.cause);
    })

pub returns-in-Err : goal.returns-in-Err
returns-in-Err g c =
    let old = g.S.Site.told c.args.site.now in
    let mid = g.S.Site.told c.find_parts.new.site in
    record {
      told = record {
        given = Err c.in-Err.fault;
        middle = mid;
        finds = subst (λ (b : Bool). FindsParts b c.args.side.now c.args.rest.now
            (Err c.in-Err.fault) old mid) c.has_all.ensures c.in-Err.ensures.told;
        told = (refl, refl);
      };
      only = c.in-Err.ensures.only;
      cause = job_as (Option ℕ) Bool c.in-Err.fault (g.S.Site.fault_count c.args.site.now)
          (g.S.Site.fault_count c.find_parts.new.site) c.in-Err.ensures.cause;
    }
