use Rattle.chk_ctl_inspect.specs.Folders.{InspectsControl}
use Rattle.chk_ctl_inspect.proofs.Keeping.{each_more, each_none}
use Rattle.chk_ctl_inspect.proofs.folders.inspect_controls.Goals as goal

pub loop-text-init : goal.loop-text-init
loop-text-init g c = each_none InspectsControl c.args.texts.now c.args.sight.now _

pub loop-text-preserved : goal.loop-text-preserved
loop-text-preserved g c =
    let l = c.loop-text in
    each_more InspectsControl c.args.texts.now l.text-index _ c.in_ok-seen.seen c.args.sight.now l.sight
    c.keep.new.self _ _ _ c.loop-text-test.true l.invariant c.in_ok-seen.ensures
    c.in_ok-keep.ensures
