use Rattle.std.proofs.Common.{◌≡◌, List, ℕ, subst, sym, ap, ◌∙◌, length, ◌++◌}
use Rattle.std.proofs.lemmas.List.{take_all, length-map}
use Rattle.chk_bytes.specs.Numbers.{be32}
use Rattle.chk_tee.specs.Messages.{IsTee, tee_mark, written_tee, written_teeds}
use Rattle.chk_tee.specs.Lent.{lent_teed, lent_teeds}
use Rattle.chk_tee.specs.declared.Teed.{Teed as LentTeed}
use Rattle.chk_tee.proofs.MessageWriting.{tee_more, item_valid, tee_of_valid}
use Rattle.chk_tee.proofs.writing.write_tee.Goals as goal

pub push_teed-requires : goal.push_teed-requires
push_teed-requires c =
    item_valid c.args.items.now c.loop-item.item-index c.item-item.result c.requires.valid c.loop-item-test.true c.item-item.is

pub loop-item-preserved : goal.loop-item-preserved
loop-item-preserved c =
    let l = c.loop-item in
    tee_more c.args.items.now l.item-index c.item-item.result (tee_mark ++ be32 (length c.args.items.now)) l.out _
    c.loop-item-test.true c.item-item.is l.invariant c.in_ok-push_teed.ensures

pub returns-clause-tee : goal.returns-clause-tee
returns-clause-tee c =
    let items = c.args.items.now in
    let l = c.loop-item in
    let r = c.requires in
    let is : l.out ≡ written_tee (lent_teeds items) =
    l.invariant
    ∙ (ap (λ (ts : List LentTeed). (tee_mark ++ be32 (length items)) ++ written_teeds (lent_teeds ts))
    (take_all l.item-index items c.loop-item-test.false)
    ∙ ap (λ n. (tee_mark ++ be32 n) ++ written_teeds (lent_teeds items)) (sym (length-map items lent_teed))) in
    subst (λ (tee : List ℕ). IsTee (lent_teeds items) tee) (sym is) (tee_of_valid items r.some r.few r.valid r.fits)
