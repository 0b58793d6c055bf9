use Rattle.std.proofs.Common.{sym, subst}
use Rattle.std.specs.Prelude.{Result}
use Rattle.chk_site.specs.Site.{OutsideCause}
use Rattle.chk_site.specs.declared.acts.OutsideFault.{OutsideFault}
use Rattle.chk_ctl_status_rows.specs.declared.probing.Next.{Next}
use Rattle.chk_ctl_status_rows.proofs.Causes.{cause_next}
use Rattle.chk_ctl_status_rows.proofs.Parts.{probes_after}
use Rattle.chk_ctl_status_rows.proofs.probing.see_end.Goals as goal

pub returns : goal.returns
returns g c = record {
  told = record {
    given = c.read_at-given.result;
    probes = probes_after c.args.after c.read_at-given.ensures.told;
    is = c.next_by.ensures;
  };
  cause =
      subst (λ (r : Result Next OutsideFault).
      OutsideCause (g.S.Site.fault_count c.args.site.now)
      (g.S.Site.fault_count c.read_at-given.new.site)
      r) (sym c.next_by.ensures)
      (cause_next c.args.first c.args.size c.read_at-given.result
      (g.S.Site.fault_count c.args.site.now) (g.S.Site.fault_count c.read_at-given.new.site)
      c.read_at-given.ensures.cause);
}
