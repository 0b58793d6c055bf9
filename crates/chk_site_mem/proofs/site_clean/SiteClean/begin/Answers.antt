use Rattle.std.proofs.Common.{sym, subst}
use Rattle.chk_site_mem.specs.Lossless.{RepeatsNone}
use Rattle.chk_site_mem.proofs.CallLemmas.{runs_on}
use Rattle.chk_site_mem.proofs.LossLemmas.{still_begun}
use Rattle.chk_site_mem.proofs.site_clean.SiteClean.begin.Goals as goal

pub invariant_of-self : goal.invariant_of-self
invariant_of-self c = (
  runs_on _ _ c.happen.ensures.theirs c.self.invariant.0,
  still_begun _ _ _ c.happen.ensures.theirs c.self.invariant.1,
  subst RepeatsNone (sym c.happen.ensures.repeats) c.self.invariant.2,
)

pub invariant_of-self-2 : goal.invariant_of-self-2
invariant_of-self-2 c = (
  runs_on _ _ c.happen.ensures.theirs c.self.invariant.0,
  still_begun _ _ _ c.happen.ensures.theirs c.self.invariant.1,
  subst RepeatsNone (sym c.happen.ensures.repeats) c.self.invariant.2,
)
