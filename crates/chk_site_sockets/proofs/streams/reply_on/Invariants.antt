use Rattle.std.proofs.Common.{◌≤◌, length}
use Rattle.chk_site_sockets.proofs.streams.reply_on.Given as goal

abbrev pub invariant-loop : goal.invariant-loop
invariant-loop g l = length l.bytes ≤ 1048576
