use Rattle.std.proofs.Common.{◌≡◌, ◌+◌, ℕ}
use Rattle.std.specs.Prelude.{IfErr}
use Rattle.chk_site.specs.History.{Every}
use Rattle.chk_site.specs.Site.{Adds}
use Rattle.chk_world.specs.JobSteps.{IsOf, ReadsFile}
use Rattle.chk_record_index.specs.Faults.{JobCause, FailsLast, IsOfRead}
use Rattle.chk_ctl_verify_archive.specs.Verifying.{LooksOn}
use Rattle.chk_ctl_verify_archive.proofs.folders.verify.Given as goal

abbrev pub invariant-loop-left : goal.invariant-loop-left
invariant-loop-left g l = record {
  more : ℕ;
  sum : more + l.left ≡ 64;
  so : LooksOn l.folder more l.given (g.S.Site.told l.fn.site) (g.S.Site.told l.site);
  own : Adds (g.S.Site.told l.fn.site) (g.S.Site.told l.site) (Every (IsOf ReadsFile));
  only : IfErr l.given IsOfRead;
  last : Adds (g.S.Site.told l.fn.site) (g.S.Site.told l.site) (FailsLast l.given);
  cause : JobCause (g.S.Site.fault_count l.fn.site) (g.S.Site.fault_count l.site) l.given;
}

abbrev pub decreases-loop-left : goal.decreases-loop-left
decreases-loop-left g l = l.left
