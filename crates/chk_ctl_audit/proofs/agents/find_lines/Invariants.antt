use Rattle.std.proofs.Common.{◌≡◌, drop, List, Option, Result}
use Rattle.chk_site.specs.History.{History}
use Rattle.chk_record_index.specs.declared.fault.JobFault.{JobFault}
use Rattle.chk_checkpoint.specs.Lines.{lines_of}
use Rattle.chk_ctl_sum.specs.declared.rests.Rest.{Rest}
use Rattle.chk_ctl_audit.specs.Finding.{FindsLines}
use Rattle.chk_ctl_audit.proofs.agents.find_lines.Given as goal

abbrev pub invariant-loop-end : goal.invariant-loop-end
invariant-loop-end g l = record {
  count : g.S.Site.fault_count l.site ≡ g.S.Site.fault_count l.fn.site;
  behind : (result : Result (Unit {0}) JobFault) (last : List Rest) (new : Option History)
      → FindsLines (lines_of l.check) result last (drop l.end-index l.ends) l.rests.items
      (g.S.Site.told l.site) new
      → FindsLines (lines_of l.check) result last l.ends l.fn.rests.items
      (g.S.Site.told l.fn.site) new;
}
