use Rattle.chk_ctl_inspect.specs.Folders.{InspectsStore}
use Rattle.chk_ctl_inspect.proofs.Keeping.{each_more, each_none}
use Rattle.chk_ctl_inspect.proofs.folders.inspect_stores.Goals as goal

pub loop-store-init : goal.loop-store-init
loop-store-init g c = each_none InspectsStore c.args.stores.now c.args.sight.now _

pub loop-store-preserved : goal.loop-store-preserved
loop-store-preserved g c =
    let l = c.loop-store in
    each_more InspectsStore c.args.stores.now l.store-index _ c.in_ok-seen.seen c.args.sight.now l.sight
    c.keep.new.self _ _ _ c.loop-store-test.true l.invariant c.in_ok-seen.ensures
    c.in_ok-keep.ensures
