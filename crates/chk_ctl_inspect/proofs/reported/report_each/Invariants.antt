use Rattle.std.proofs.Common.{◌≡◌, take, Ok}
use Rattle.std.specs.Prelude.{flat_map}
use Rattle.chk_ctl_inspect.specs.Reporting.{TellsAll}
use Rattle.chk_ctl_inspect.proofs.reported.report_each.Given as goal

abbrev pub invariant-loop-item : goal.invariant-loop-item
invariant-loop-item g l =
    TellsAll (flat_map (g.R.Reported.texts l.in_tables l.books) (take l.item-index l.items)) (Ok tt)
    (g.S.Site.told l.fn.site) (g.S.Site.told l.site)
    × (g.S.Site.fault_count l.site ≡ g.S.Site.fault_count l.fn.site)
