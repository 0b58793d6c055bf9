use Rattle.std.proofs.Common.{◌≡◌, drop, Option, Result}
use Rattle.chk_site.specs.declared.acts.OutsideFault.{OutsideFault}
use Rattle.chk_site.specs.History.{History}
use Rattle.chk_site.specs.Runs.{MadeInTurn}
use Rattle.chk_archive.specs.Calling.{removals}
use Rattle.chk_archive.proofs.calling.remove_all.Given as goal

abbrev pub invariant-loop-name : goal.invariant-loop-name
invariant-loop-name g l = record {
  so_far : (result : Result (Unit {0}) OutsideFault) (new : Option History)
      → MadeInTurn (removals l.who (drop l.name-index l.names)) result (g.S.Site.told l.site) new
      → MadeInTurn (removals l.who l.names) result (g.S.Site.told l.fn.site) new;
  count : g.S.Site.fault_count l.site ≡ g.S.Site.fault_count l.fn.site;
}
