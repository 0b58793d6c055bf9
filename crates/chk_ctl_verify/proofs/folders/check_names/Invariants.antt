use Rattle.std.proofs.Common.{take, Ok, ◌≡◌}
use Rattle.chk_site.specs.History.{Every}
use Rattle.chk_site.specs.Site.{Adds}
use Rattle.chk_ctl_verify.specs.Calls.{Looks}
use Rattle.chk_ctl_verify.specs.Walks.{EachChecked, FileChecked}
use Rattle.chk_ctl_verify.proofs.folders.check_names.Given as goal

abbrev pub invariant-loop-name : goal.invariant-loop-name
invariant-loop-name g l = record {
  told : EachChecked (FileChecked l.place) (take l.name-index l.names) (Ok l.damaged)
      (g.S.Site.told l.fn.site) (g.S.Site.told l.site);
  own : Adds (g.S.Site.told l.fn.site) (g.S.Site.told l.site) (Every Looks);
  count : g.S.Site.fault_count l.site ≡ g.S.Site.fault_count l.fn.site;
}
