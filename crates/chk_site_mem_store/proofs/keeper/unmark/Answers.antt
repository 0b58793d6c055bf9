use Rattle.std.proofs.Common.{false, get_or, arith, length, ◌<◌}
use Rattle.std.proofs.lemmas.List.{get_or_default}
use Rattle.std.proofs.lemmas.List.Edits.{map_over_more}
use Rattle.chk_site_mem_store.proofs.keeper.unmark.Goals as goal

pub loop-own-preserved : goal.loop-own-preserved
loop-own-preserved c =
    let mine = c.loop-own.mine in
    let i = c.loop-own.own-index in
    let here : i < length mine = omega arith in
    map_over_more (λ _. false) c.args.mine.now mine i (get_or mine i false) c.loop-own-test.true c.loop-own.invariant
    (get_or_default mine i false (get_or mine i false) here)
