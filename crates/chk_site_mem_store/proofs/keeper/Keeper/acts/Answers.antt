use Rattle.std.proofs.Common.{sym, ◌∙◌, ap}
use Rattle.chk_site_mem_store.specs.Told.{acts_of}
use Rattle.chk_site_mem_store.proofs.KeepLemmas.{acts_kept}
use Rattle.chk_site_mem_store.proofs.keeper.Keeper.acts.Goals as goal

pub returns : goal.returns
returns c =
    c.deref.ensures.value ∙ sym (acts_kept _ _ c.self.invariant.marked) ∙ ap (λ s. acts_of s.kept) c.self.view_is
