use Rattle.std.proofs.Common.{◌≡◌, length}
use Rattle.chk_site_peers.specs.Held.{callers_left, stages_left}
use Rattle.chk_site_peers.proofs.held.Held.sweep.Given as goal

abbrev pub invariant-loop-place : goal.invariant-loop-place
invariant-loop-place g l =
    (stages_left l.self.stages.held.items ≡ stages_left l.initial.self.stages.held.items)
    × (callers_left l.self.callers.items l.self.stages.held.items
    ≡ callers_left l.initial.self.callers.items l.initial.self.stages.held.items)

abbrev pub decreases-loop-place : goal.decreases-loop-place
decreases-loop-place g l = length l.self.stages.held.items
