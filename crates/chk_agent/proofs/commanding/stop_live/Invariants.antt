use Rattle.std.proofs.Common.{◌≡◌}
use Rattle.chk_agent.proofs.CommandingLists.{past_to}
use Rattle.chk_agent.proofs.commanding.stop_live.Given as goal

abbrev pub invariant-loop-place : goal.invariant-loop-place
invariant-loop-place l = l.adaptors.items ≡ past_to l.delivery.table.committed 0 l.place
    l.fn.adaptors.items
