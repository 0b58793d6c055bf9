use Rattle.std.proofs.Common.{List, [], ◌∷◌, ◌++◌, ◌≡◌, Bool, ◌∙◌, ap}
use Rattle.chk_site.specs.declared.acts.Act.{Act}
use Rattle.chk_site.specs.History.{files_after}
use Rattle.chk_site_mem_store.specs.Told.{Kept, kept_as, told_of, fitted}
use Rattle.chk_site_mem_store.specs.Stored.{file_in}
use Rattle.chk_site_mem_store.specs.Keeping.{kept_in}
use Rattle.chk_site_mem_store.specs.Repeating.{capped_sum, noted, own_outside, repeating_of}
use Rattle.chk_site_mem_store.specs.State.{State, after}
use Rattle.chk_site_mem_store.proofs.KeepLemmas.{fitted_files_same, kept_one, kept_push, same_state}
use Rattle.chk_site_mem_store.proofs.keeper.Keeper.add.Goals as goal

pub invariant_of-self-2 : goal.invariant_of-self-2
invariant_of-self-2 c =
    let k = c.self.inside in
    let act = c.in_ok-act.act in
    let past : c.push.new.past.items ≡ k.past.items ++ act ∷ [] =
    c.push.ensures.past ∙ ap (λ (acts : List Act). acts ++ act ∷ []) c.in_ok-reserve.ensures.same_past in
    let mine : c.push.new.mine.items ≡ k.mine.items ++ c.args.own ∷ [] =
    c.push.ensures.mine ∙ ap (λ (marks : List Bool). marks ++ c.args.own ∷ []) c.in_ok-reserve.ensures.same_mine in
    rw (past, mine)
    (kept_one k.mine.items k.past.items k.files.items _ k.logs.items _ k.stopped _ c.args.own k.messages _ k.takings _ c.args.act
    act c.self.invariant c.in_ok-act.ensures.ok c.stopped_after-self-inside.ensures
    c.last_message-self-inside.ensures c.last_taking-self-inside.ensures)

pub returns-clause-added : goal.returns-clause-added
returns-clause-added c =
    let k = c.self.inside in
    let act = c.in_ok-act.act in
    let past : c.push.new.past.items ≡ k.past.items ++ act ∷ [] =
    c.push.ensures.past ∙ ap (λ (acts : List Act). acts ++ act ∷ []) c.in_ok-reserve.ensures.same_past in
    let mine : c.push.new.mine.items ≡ k.mine.items ++ c.args.own ∷ [] =
    c.push.ensures.mine ∙ ap (λ (marks : List Bool). marks ++ c.args.own ∷ []) c.in_ok-reserve.ensures.same_mine in
    let told = λ (kept : List Kept). files_after (told_of kept) in
    let fits = c.in_ok-act.ensures.ok.fits
    ∙ fitted_files_same c.args.act (file_in k.files.items) (told (kept_in k.mine.items k.past.items)) c.self.invariant.stores.files_are.at in
    let kept = kept_push k.mine.items k.past.items c.args.own act c.self.invariant.marked in
    let before : State = record { kept = kept_in k.mine.items k.past.items; clock = k.clock; repeats = repeating_of k.repeats } in
    rw (past, mine)
    (same_state _ _ _ _ _ _ kept
    (c.saturating_add-self-inside.ensures ∙ ap (capped_sum k.clock) c.own_wait.ensures)
    (c.note.ensures ∙ ap (noted (own_outside (kept_as c.args.own act))) c.in_ok-reserve.ensures.same_repeats)
    ∙ ap (λ a. after (kept_as c.args.own a) before) fits
    ∙ ap (λ (s : State). after (kept_as c.args.own (fitted (told s.kept) c.args.act)) s) c.self.view_is)
