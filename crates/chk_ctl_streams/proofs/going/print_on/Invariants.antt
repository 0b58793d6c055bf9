use Rattle.std.proofs.Common.{◌≡◌, ◌+◌, ℕ}
use Rattle.chk_site.specs.History.{Every}
use Rattle.chk_site.specs.Site.{Adds}
use Rattle.chk_world.specs.JobSteps.{IsOf}
use Rattle.chk_ctl_cat.specs.Faults.{FailsLast, LookCause}
use Rattle.chk_ctl_cat.specs.Looking.{LooksOrSays}
use Rattle.chk_ctl_streams.specs.Going.{Goes}
use Rattle.chk_ctl_streams.proofs.going.print_on.Given as goal

abbrev pub invariant-loop-left : goal.invariant-loop-left
invariant-loop-left g l = record {
  more : ℕ;
  sum : more + l.left ≡ l.books;
  so : Goes l.folder l.most more l.fn.course l.course l.given (g.S.Site.told l.fn.site)
      (g.S.Site.told l.site);
  own : Adds (g.S.Site.told l.fn.site) (g.S.Site.told l.site) (Every (IsOf LooksOrSays));
  last : Adds (g.S.Site.told l.fn.site) (g.S.Site.told l.site) (FailsLast l.given);
  cause : LookCause (g.S.Site.fault_count l.fn.site) (g.S.Site.fault_count l.site) l.given;
}

abbrev pub decreases-loop-left : goal.decreases-loop-left
decreases-loop-left g l = l.left
