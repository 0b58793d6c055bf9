use Rattle.std.proofs.Common.{Bool, None, Ok, refl, subst, sym}
use Rattle.chk_site.specs.declared.acts.Who.{Who}
use Rattle.chk_ctl_audit_log.specs.Streams.{StreamMet}
use Rattle.chk_ctl_audit.specs.Streams.{FindsParts, parts_of}
use Rattle.chk_ctl_audit.proofs.Steps.{parts_cause, parts_only}
use Rattle.chk_ctl_audit.proofs.streams.find_parts.Goals as goal

pub returns-then-same : goal.returns-then-same
returns-then-same g c =
    let now = g.S.Site.told c.args.site.now in
    record {
      told = subst (λ (b : Bool). FindsParts b c.args.side.now c.args.rest.now (Ok None) now now)
          (sym c.if-same.true) (refl, refl);
      only = tt;
      cause = refl;
    }

pub returns : goal.returns
returns g c =
    let old = g.S.Site.told c.args.site.now in
    let new = g.S.Site.told c.meet_log-given.new.site in
    let given = c.meet_log-given.result in
    let side = c.args.side.now in
    let r = c.args.rest.now in
    rw c.parts_of.ensures
    (record {
      told = subst (λ (b : Bool). FindsParts b side r (parts_of given) old new)
          (sym c.if-same.false) (record {
            given = given;
            met = subst (λ (w : Who). StreamMet w side r given old new) c.requires.job
                c.meet_log-given.ensures.told;
            own = c.meet_log-given.ensures.own;
            is = refl;
          });
      only = parts_only given c.meet_log-given.ensures.only;
      cause = parts_cause given (g.S.Site.fault_count c.args.site.now)
          (g.S.Site.fault_count c.meet_log-given.new.site) c.meet_log-given.ensures.cause;
    })
