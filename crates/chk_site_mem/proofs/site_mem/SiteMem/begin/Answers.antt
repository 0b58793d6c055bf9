use Rattle.chk_site_mem.proofs.LossLemmas.{still_begun}
use Rattle.chk_site_mem.proofs.site_mem.SiteMem.begin.Goals as goal

pub invariant_of-self-3 : goal.invariant_of-self-3
invariant_of-self-3 c = still_begun _ _ _ c.happen.ensures.theirs c.self-2.invariant

pub invariant_of-self-in_err-happen : goal.invariant_of-self-in_err-happen
invariant_of-self-in_err-happen c = still_begun _ _ _ c.happen.ensures.theirs c.self-2.invariant
