use Rattle.std.proofs.Common.{take, Ok, ◌≡◌}
use Rattle.chk_site.specs.History.{Every}
use Rattle.chk_site.specs.Site.{Adds}
use Rattle.chk_ctl_verify.specs.Calls.{Looks}
use Rattle.chk_ctl_verify.specs.Books.{SegmentChecked}
use Rattle.chk_ctl_verify.specs.Walks.{EachChecked}
use Rattle.chk_ctl_verify.proofs.books.check_numbers.Given as goal

abbrev pub invariant-loop-number : goal.invariant-loop-number
invariant-loop-number g l = record {
  told : EachChecked (SegmentChecked l.folder l.told) (take l.number-index l.numbers) (Ok l.damaged)
      (g.S.Site.told l.fn.site) (g.S.Site.told l.site);
  own : Adds (g.S.Site.told l.fn.site) (g.S.Site.told l.site) (Every Looks);
  count : g.S.Site.fault_count l.site ≡ g.S.Site.fault_count l.fn.site;
}
