use Rattle.std.proofs.Common.{◌∙◌, ◌++◌, ap}
use Rattle.chk_ctl_held.specs.declared.stores.Store.{Store}
use Rattle.chk_ctl_held.specs.Elsewhere.{found_in}
use Rattle.chk_ctl_held.specs.Stores.{lent_gap, seen_of}
use Rattle.chk_ctl_held.proofs.StoreLines.{one_added}
use Rattle.chk_ctl_held.proofs.found.add_found.Goals as goal

pub loop-store-preserved : goal.loop-store-preserved
loop-store-preserved c =
    let l = c.loop-store in
    let found = found_in (lent_gap c.args.gap.now) in
    one_added found seen_of c.args.lines.now l.lines c.add_store.new.lines c.args.stores.now
    l.store-index c.store-item.result c.loop-store-test.true l.invariant
    (c.in_ok-add_store.ensures
    ∙ ap (λ (s : Store). l.lines ++ found (seen_of s)) c.store-item.is)
