use Rattle.std.proofs.Common.{◌≡◌, ℕ, List, drop, map, Option, Result}
use Rattle.chk_site.specs.declared.acts.OutsideFault.{OutsideFault}
use Rattle.chk_site.specs.History.{History}
use Rattle.chk_checkpoint.specs.Lines.{shown}
use Rattle.chk_ctl_status_rows.specs.Agents.{SeesLogs}
use Rattle.chk_ctl_status_rows.proofs.agents.add_ends.Given as goal

abbrev pub invariant-loop-line : goal.invariant-loop-line
invariant-loop-line g l = record {
  count : g.S.Site.fault_count l.site ≡ g.S.Site.fault_count l.fn.site;
  behind : (result : Result (List (Option ℕ)) OutsideFault) (new : Option History)
      → SeesLogs l.who l.ends.items (map shown (drop l.line-index l.lines)) result
      (g.S.Site.told l.site) new
      → SeesLogs l.who l.fn.ends.items (map shown l.lines) result (g.S.Site.told l.fn.site) new;
}
