use Rattle.std.proofs.Common.{◌++◌, ◌≤◌, List, Option, [], length}
use Rattle.chk_bytes.specs.Words.{parts_at}
use Rattle.chk_site.specs.History.{Every, History}
use Rattle.chk_site.specs.Site.{Adds}
use Rattle.chk_world.specs.JobSteps.{IsOf}
use Rattle.chk_ctl_check.specs.declared.finding.Finding.{Finding}
use Rattle.chk_ctl_check.specs.Looking.{AsksOfLogs, LinesSeen}
use Rattle.chk_ctl_check.proofs.finding.find_troubles.Given as goal

abbrev pub invariant-loop-size : goal.invariant-loop-size
invariant-loop-size g l = record {
  count : g.S.Site.fault_count l.fn.site ≤ g.S.Site.fault_count l.site;
  own : Adds (g.S.Site.told l.fn.site) (g.S.Site.told l.site) (Every (IsOf AsksOfLogs));
  behind : (more : List Finding) (new : Option History)
      → LinesSeen l.line l.added.items (parts_at 10 l.rest) more (g.S.Site.told l.site) new
      → LinesSeen 1 [] (parts_at 10 l.text) (l.findings.items ++ more) (g.S.Site.told l.fn.site)
      new;
}

abbrev pub decreases-loop-size : goal.decreases-loop-size
decreases-loop-size g l = length l.rest
