use Rattle.std.proofs.Common.{◌≤◌, length}
use Rattle.chk_site_peers.proofs.leaving.Leaving.look.Given as goal

abbrev pub invariant-loop : goal.invariant-loop
invariant-loop g l = length l.self.streams.items ≤ length l.initial.self.streams.items
