use Rattle.std.proofs.Common.{Err, List, ℕ, subst}
use Rattle.chk_ctl_status_rows.specs.Sinks.{listed, unlisted, FindsSinks, SeesNames}
use Rattle.chk_ctl_status_rows.proofs.SinksOwn.{cause_after, finds_own}
use Rattle.chk_ctl_status_rows.proofs.sinks.find_sinks.Goals as goal

pub returns-in-Ok : goal.returns-in-Ok
returns-in-Ok g c =
    let result = c.see_names.result in
    let finds : FindsSinks c.args.who.now result (g.S.Site.told c.args.site.now)
    (g.S.Site.told c.see_names.new.site) = listed c.in-Ok.ensures.ok
    (subst (λ (ns : List (List ℕ)). SeesNames c.args.who.now ns result
    (g.S.Site.told c.list_sinks.new.site) (g.S.Site.told c.see_names.new.site))
    c.as_slice.ensures.value c.see_names.ensures.told) in
    record {
      told = finds;
      own = finds_own c.requires.job finds;
      cause = cause_after result (g.S.Site.fault_count c.args.site.now)
          (g.S.Site.fault_count c.list_sinks.new.site)
          (g.S.Site.fault_count c.see_names.new.site) c.in-Ok.ensures.cause
          c.see_names.ensures.cause;
    }

pub returns-in-Err : goal.returns-in-Err
returns-in-Err g c =
    let finds : FindsSinks c.args.who.now (Err c.in-Err.fault) (g.S.Site.told c.args.site.now)
    (g.S.Site.told c.list_sinks.new.site) = unlisted c.in-Err.ensures.err in
    record {
      told = finds;
      own = finds_own c.requires.job finds;
      cause = c.in-Err.ensures.cause;
    }
