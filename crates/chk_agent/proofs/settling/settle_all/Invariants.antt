use Rattle.std.proofs.Common.{◌≡◌}
use Rattle.chk_agent.proofs.SettlingLines.{settled_up}
use Rattle.chk_agent.proofs.settling.settle_all.Given as goal

abbrev pub invariant-loop-place : goal.invariant-loop-place
invariant-loop-place l = l.adaptors.items ≡ settled_up l.place l.fn.adaptors.items
    l.delivery.table.committed
