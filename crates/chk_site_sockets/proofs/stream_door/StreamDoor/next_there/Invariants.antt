use Rattle.std.proofs.Common.{◌≡◌}
use Rattle.chk_site_sockets.proofs.stream_door.StreamDoor.next_there.Given as goal

abbrev pub invariant-loop : goal.invariant-loop
invariant-loop g l = l.self.taken ≡ l.fn.self.taken
