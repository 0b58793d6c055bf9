use Rattle.std.proofs.Common.{◌≡◌, ◌++◌, ◌∷◌, [], ◌∙◌, sym, subst, ap, map, take}
use Rattle.std.proofs.lemmas.List.{take_more, map-append}
use Rattle.chk_record_index.specs.declared.origins.Origin.{Origin}
use Rattle.chk_record_index.specs.Order.{rank_in, AreInOrder}
use Rattle.chk_record_index.proofs.gather.order.ranks_of.Goals as goal

pub loop-origin-preserved : goal.loop-origin-preserved
loop-origin-preserved c =
    let origins = c.args.origins.now in
    let i = c.loop-origin.origin-index in
    let rank = rank_in origins in
    let of : Origin = c.origin-item.result in
    let is : c.rank_of.result ≡ rank of =
    c.rank_of.ensures origins (subst (AreInOrder origins) (sym c.deref.ensures.value) c.in_ok-sorted.ensures) in
    c.in_ok-push.ensures.items
    ∙ (ap (λ l. l ++ c.rank_of.result ∷ []) c.loop-origin.invariant
    ∙ (ap (λ n. map rank (take i origins) ++ n ∷ []) is
    ∙ (sym (map-append rank (take i origins) (of ∷ [])) ∙ ap (map rank) (ap (λ o. take i origins ++ o ∷ []) c.origin-item.is ∙ sym (take_more origins i of c.loop-origin-test.true)))))
