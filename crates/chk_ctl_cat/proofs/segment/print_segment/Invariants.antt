use Rattle.std.proofs.Common.{◌≡◌, ◌-◌, ◌^◌}
use Rattle.chk_ctl_cat.proofs.SegmentLemmas.{IsFollowing}
use Rattle.chk_ctl_cat.proofs.segment.print_segment.Given as goal

abbrev pub invariant-loop-out : goal.invariant-loop-out
invariant-loop-out g l = record {
  so : IsFollowing (g.S.Site.told l.fn.site) (g.S.Site.told l.site) l.most l.name l.fn.course l.course l.pieces l.at;
  count : g.S.Site.fault_count l.site ≡ g.S.Site.fault_count l.fn.site;
}

abbrev pub decreases-loop-out : goal.decreases-loop-out
decreases-loop-out g l = 2 ^ 64 - l.at
