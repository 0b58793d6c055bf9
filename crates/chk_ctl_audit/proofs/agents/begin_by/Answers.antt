use Rattle.std.proofs.Common.{Option, List, ℕ, Ok, Err, subst}
use Rattle.std.specs.Option.{option_copied}
use Rattle.chk_site.specs.declared.acts.Who.{Who}
use Rattle.chk_site.specs.History.{Every}
use Rattle.chk_site.specs.Site.{Adds}
use Rattle.chk_world.specs.JobSteps.{IsOf}
use Rattle.chk_world.specs.Sight.{job}
use Rattle.chk_ctl_audit_log.specs.Placing.{FoundBegin, ReadsLogOf}
use Rattle.chk_ctl_passed.proofs.Joined.{cause_as}
use Rattle.chk_ctl_audit.proofs.agents.begin_by.Goals as goal

pub returns-in-Ok : goal.returns-in-Ok
returns-in-Ok g c =
    let l = c.args.line.now in
    let old = g.S.Site.told c.args.site.now in
    let new = g.S.Site.told c.find_begin.new.site in
    let given = Ok c.in-Ok.begin in
    let path = c.as_str.ensures.text in
    record {
      told = record {
        found = subst (λ (p : List ℕ). FoundBegin job p l.place.after l.place.first given old new)
            path
            (subst (λ (o : Option (List ℕ)). FoundBegin job c.as_str.result.now o l.place.first given
            old new) c.as_ref.ensures.value
            (subst (λ (w : Who). FoundBegin w c.as_str.result.now
            (option_copied c.as_ref.result) l.place.first given old new) c.requires.job c.in-Ok.ensures.told));
        own = subst (λ (p : List ℕ). Adds old new (Every (IsOf (ReadsLogOf p)))) path
            c.in-Ok.ensures.own;
      };
      cause = c.in-Ok.ensures.cause;
    }

pub returns-in-Err : goal.returns-in-Err
returns-in-Err g c =
    let l = c.args.line.now in
    let old = g.S.Site.told c.args.site.now in
    let new = g.S.Site.told c.find_begin.new.site in
    let given = Err c.in-Err.fault in
    let path = c.as_str.ensures.text in
    record {
      told = record {
        found = subst (λ (p : List ℕ). FoundBegin job p l.place.after l.place.first given old new)
            path
            (subst (λ (o : Option (List ℕ)). FoundBegin job c.as_str.result.now o l.place.first given
            old new) c.as_ref.ensures.value
            (subst (λ (w : Who). FoundBegin w c.as_str.result.now
            (option_copied c.as_ref.result) l.place.first given old new) c.requires.job c.in-Err.ensures.told));
        own = subst (λ (p : List ℕ). Adds old new (Every (IsOf (ReadsLogOf p)))) path
            c.in-Err.ensures.own;
      };
      cause = cause_as ℕ (Option ℕ) c.in-Err.fault (g.S.Site.fault_count c.args.site.now)
          (g.S.Site.fault_count c.find_begin.new.site) c.in-Err.ensures.cause;
    }
