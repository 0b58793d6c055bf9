use Rattle.std.proofs.Common.{◌≡◌, ◌-◌, drop, length, List, Option, Result}
use Rattle.chk_site.specs.History.{History}
use Rattle.chk_record_index.specs.declared.fault.JobFault.{JobFault}
use Rattle.chk_ctl_sum.specs.declared.rests.Rest.{Rest}
use Rattle.chk_ctl_audit.specs.Finding.{FindsEach}
use Rattle.chk_ctl_audit.proofs.agents.find_rests.Given as goal

abbrev pub invariant-loop-at : goal.invariant-loop-at
invariant-loop-at g l = record {
  count : g.S.Site.fault_count l.site ≡ g.S.Site.fault_count l.fn.site;
  behind : (result : Result (Unit {0}) JobFault) (last : List Rest) (new : Option History)
      → FindsEach result last (drop l.at l.ends) l.rests.items (g.S.Site.told l.site) new
      → FindsEach result last l.ends l.fn.rests.items (g.S.Site.told l.fn.site) new;
}

abbrev pub decreases-loop-at : goal.decreases-loop-at
decreases-loop-at g l = length l.ends - l.at
