use Rattle.std.proofs.Common.{◌≡◌, length}
use Rattle.chk_site_peers.proofs.held.Held.hear_all.Given as goal

abbrev pub invariant-loop-place : goal.invariant-loop-place
invariant-loop-place g l =
    (length l.self.stages.held.items ≡ length l.initial.self.stages.held.items)
    × (length l.self.callers.items ≡ length l.initial.self.callers.items)
