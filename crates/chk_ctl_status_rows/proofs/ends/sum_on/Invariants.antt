use Rattle.std.proofs.Common.{◌≡◌, ℕ, Option, Result}
use Rattle.chk_site.specs.declared.acts.OutsideFault.{OutsideFault}
use Rattle.chk_site.specs.History.{History}
use Rattle.chk_ctl_status_rows.specs.Ends.{SumsOn}
use Rattle.chk_ctl_status_rows.proofs.ends.sum_on.Given as goal

abbrev pub invariant-loop-seen : goal.invariant-loop-seen
invariant-loop-seen g l = record {
  count : g.S.Site.fault_count l.site ≡ g.S.Site.fault_count l.fn.site;
  behind : (result : Result (Option ℕ) OutsideFault) (new : Option History)
      → SumsOn l.who l.path result l._seen l.suffix l.end (g.S.Site.told l.site) new
      → SumsOn l.who l.path result 0 l.fn.suffix l.fn.end (g.S.Site.told l.fn.site) new;
}
