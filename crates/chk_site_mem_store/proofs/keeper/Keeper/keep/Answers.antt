use Rattle.std.proofs.Common.{sym, ◌∙◌, ap, subst}
use Rattle.chk_site.specs.Acts.{deed}
use Rattle.chk_site.specs.History.{Modelled, files_after, logs_after}
use Rattle.chk_site_mem_store.specs.Told.{kept_as, told_of, step_of, fitted}
use Rattle.chk_site_mem_store.specs.Stored.{file_in, log_in}
use Rattle.chk_site_mem_store.specs.Keeping.{kept_in}
use Rattle.chk_site_mem_store.specs.State.{State}
use Rattle.chk_site_mem_store.proofs.KeepLemmas.{room_same, sound_kept}
use Rattle.chk_site_mem_store.proofs.ModelLemmas.{modelled}
use Rattle.chk_site_mem_store.proofs.keeper.Keeper.keep.Goals as goal

pub returns-clause-modelled : goal.returns-clause-modelled
returns-clause-modelled c =
    let k = c.self.inside in
    let kept = kept_in k.mine.items k.past.items in
    let stores = c.self.invariant.stores in
    let M : State → Type 0 = λ s. let kept = s.kept in Modelled (told_of kept) (step_of (told_of kept) (kept_as c.args.own (fitted (files_after (told_of kept)) c.args.act))) in
    let ok = sym c.is_allowed.ensures ∙ c.if-not-is_allowed.false in
    let room = room_same (deed c.args.act) (file_in c.deref.result.now) (files_after (told_of kept)) (log_in c.deref-2.result.now)
    (logs_after (told_of kept))
    (λ name. ap (λ fs. file_in fs name) c.deref.ensures.value ∙ stores.files_are.at name)
    (λ path. ap (λ ls. log_in ls path) c.deref-2.ensures.value ∙ stores.logs_are.at path)
    (c.has_room.ensures c.if-not-has_room.false) in
    subst M c.self.view_is
    (modelled (told_of kept) c.args.own c.args.act (sound_kept k.files.items (files_after (told_of kept)) stores.files_are) ok room)
