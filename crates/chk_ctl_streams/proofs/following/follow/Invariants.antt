use Rattle.std.proofs.Common.{◌≡◌, Option, Result}
use Rattle.chk_site.specs.History.{History, Every}
use Rattle.chk_site.specs.Site.{Adds}
use Rattle.chk_world.specs.JobSteps.{IsOf}
use Rattle.chk_ctl_cat.specs.declared.course.Course.{Course}
use Rattle.chk_ctl_cat.specs.declared.fault.LookFault.{LookFault}
use Rattle.chk_ctl_cat.specs.declared.stream.Came.{Came}
use Rattle.chk_ctl_streams.specs.Following.{Follows, LooksAgain}
use Rattle.chk_ctl_streams.proofs.following.follow.Given as goal

abbrev pub invariant-loop-left : goal.invariant-loop-left
invariant-loop-left g l = record {
  count : g.S.Site.fault_count l.site ≡ g.S.Site.fault_count l.fn.site;
  own : Adds (g.S.Site.told l.fn.site) (g.S.Site.told l.site) (Every (IsOf LooksAgain));
  behind : (e : Course) (result : Result Came LookFault) (new : Option History)
      → Follows l.folder l.most l.books l.left l.course e result (g.S.Site.told l.site) new
      → Follows l.folder l.most l.books l.looks l.fn.course e result (g.S.Site.told l.fn.site) new;
}

abbrev pub decreases-loop-left : goal.decreases-loop-left
decreases-loop-left g l = l.left
