use Rattle.std.proofs.Common.{arith, refl}
use Rattle.std.proofs.lemmas.Result.{on_ok_weaker}
use Rattle.chk_tee.specs.Lent.{lent_teed}
use Rattle.chk_tee.proofs.MessageWriting.{teed_facts, teed_value_small, written_teed-pieces}
use Rattle.chk_tee.proofs.writing.push_teed.Goals as goal

pub push_stem-requires : goal.push_stem-requires
push_stem-requires c = (teed_facts (lent_teed c.args.item.now) c.requires).stem

pub push_key-requires : goal.push_key-requires
push_key-requires c = (teed_facts (lent_teed c.args.item.now) c.requires).key

pub overflow_cast-item : goal.overflow_cast-item
overflow_cast-item c = omega (arith, teed_value_small (lent_teed c.args.item.now) c.requires)

pub returns : goal.returns
returns c =
    on_ok_weaker c.push_all.result
    (λ last.
    written_teed-pieces (lent_teed c.args.item.now) _ _ _ _ _ _ _ refl
    c.in_ok-push_stem.ensures c.in_ok-put_u64.ensures.ok c.in_ok-push_key.ensures c.in_ok-put_u32.ensures.ok last)
    c.push_all.ensures.ok
