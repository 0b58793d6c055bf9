use Rattle.std.proofs.Common.{◌≡◌, drop, Option, Result}
use Rattle.chk_site.specs.History.{History}
use Rattle.chk_record_index.specs.declared.fault.JobFault.{JobFault}
use Rattle.chk_ctl_passed.specs.declared.judging.Verdict.{Verdict}
use Rattle.chk_ctl_passed.specs.declared.judging.Verdict.TheVariants.{Unknown}
use Rattle.chk_ctl_passed.specs.Agents.{ByEach}
use Rattle.chk_ctl_passed.proofs.agents.weigh_each.Given as goal

abbrev pub invariant-loop-name : goal.invariant-loop-name
invariant-loop-name g l = record {
  behind : (result : Result Verdict JobFault) (new : Option History)
      → ByEach l.path result (drop l.name-index l.names) l.verdict (g.S.Site.told l.site) new
      → ByEach l.path result l.names Unknown (g.S.Site.told l.fn.site) new;
  count : g.S.Site.fault_count l.site ≡ g.S.Site.fault_count l.fn.site;
}
