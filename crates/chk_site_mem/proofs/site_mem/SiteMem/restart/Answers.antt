use Rattle.std.proofs.Common.{sym, subst}
use Rattle.chk_site_mem_store.specs.State.{State}
use Rattle.chk_site_mem_store.specs.Told.{told_of}
use Rattle.chk_site_mem.specs.Lossless.{NothingLost, any}
use Rattle.chk_site_mem.proofs.LossLemmas.{still_disowned}
use Rattle.chk_site_mem.proofs.site_mem.SiteMem.restart.Goals as goal

pub invariant_of-self : goal.invariant_of-self
invariant_of-self c =
    subst (λ (s : State). NothingLost any (told_of s.kept)) (sym c.disown.ensures) (still_disowned any c.self.inside.keeper.kept)
