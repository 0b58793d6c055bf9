use Rattle.std.proofs.Common.{◌≡◌}
use Rattle.chk_site_sockets.proofs.stream_door.StreamDoor.wait_for.Given as goal

abbrev pub invariant-loop-looks : goal.invariant-loop-looks
invariant-loop-looks g l = l.self.taken ≡ l.fn.self.taken
