use Rattle.std.proofs.Common.{refl, List, Bool, false, ◌∙◌, sym, ap, subst, map, length}
use Rattle.std.proofs.lemmas.List.{with_items_is, length-map}
use Rattle.chk_site_mem_store.specs.State.{anew}
use Rattle.chk_site_mem_store.specs.Keeping.{kept_in, IsKept}
use Rattle.chk_site_mem_store.proofs.KeepLemmas.{kept_disowned, disowned_in, same_state}
use Rattle.chk_site_mem_store.proofs.keeper.Keeper.disown.Goals as goal

pub invariant_of-self : goal.invariant_of-self
invariant_of-self c =
    let k = c.self.inside in
    let fits = ap length c.unmark.ensures ∙ length-map _ (λ _. false) ∙ c.deref_mut.ensures.len in
    let is = with_items_is k.mine c.unmark.new.mine fits ∙ c.unmark.ensures ∙ ap (map (λ _. false)) c.deref_mut.ensures.value in
    subst (λ (mine : List Bool). IsKept mine k.past.items k.files.items k.logs.items false k.messages k.takings) (sym is)
    (kept_disowned k.mine.items k.past.items k.files.items k.logs.items k.stopped k.messages k.takings c.self.invariant)

pub returns : goal.returns
returns c =
    let k = c.self.inside in
    let fits = ap length c.unmark.ensures ∙ length-map _ (λ _. false) ∙ c.deref_mut.ensures.len in
    let is = with_items_is k.mine c.unmark.new.mine fits ∙ c.unmark.ensures ∙ ap (map (λ _. false)) c.deref_mut.ensures.value in
    same_state _ _ _ _ _ _ (ap (λ mine. kept_in mine k.past.items) is ∙ disowned_in k.mine.items k.past.items) refl c.restart.ensures
    ∙ ap (anew c.args.again.items) c.self.view_is
