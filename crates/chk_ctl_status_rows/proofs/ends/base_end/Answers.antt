use Rattle.std.proofs.Common.{sym, subst}
use Rattle.std.specs.Prelude.{ℕ, Option, Result}
use Rattle.chk_site.specs.Site.{OutsideCause}
use Rattle.chk_site.specs.declared.acts.OutsideFault.{OutsideFault}
use Rattle.chk_ctl_status_rows.proofs.Causes.{cause_base}
use Rattle.chk_ctl_status_rows.proofs.ends.base_end.Goals as goal

pub returns : goal.returns
returns g c = record {
  told = record {
    given = c.read_at-given.result;
    probes = c.read_at-given.ensures.told;
    is = c.end_by.ensures;
  };
  cause =
      subst (λ (r : Result (Option ℕ) OutsideFault).
      OutsideCause (g.S.Site.fault_count c.args.site.now)
      (g.S.Site.fault_count c.read_at-given.new.site)
      r) (sym c.end_by.ensures)
      (cause_base c.args.first c.read_at-given.result
      (g.S.Site.fault_count c.args.site.now) (g.S.Site.fault_count c.read_at-given.new.site)
      c.read_at-given.ensures.cause);
}
