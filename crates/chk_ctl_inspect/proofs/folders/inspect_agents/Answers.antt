use Rattle.chk_ctl_inspect.specs.Folders.{InspectsAgents}
use Rattle.chk_ctl_inspect.proofs.Keeping.{each_more, each_none}
use Rattle.chk_ctl_inspect.proofs.folders.inspect_agents.Goals as goal

pub loop-folder-init : goal.loop-folder-init
loop-folder-init g c = each_none InspectsAgents c.args.folders.now c.args.sight.now _

pub loop-folder-preserved : goal.loop-folder-preserved
loop-folder-preserved g c =
    let l = c.loop-folder in
    each_more InspectsAgents c.args.folders.now l.folder-index _ c.in_ok-seen.seen c.args.sight.now l.sight
    c.keep.new.self _ _ _ c.loop-folder-test.true l.invariant c.in_ok-seen.ensures
    c.in_ok-keep.ensures
