use Rattle.std.proofs.Common.{◌≡◌, ◌+◌, ◌≤◌, ◌++◌, drop, length}
use Rattle.chk_agent.specs.Commands.{live_from, list_lines}
use Rattle.chk_agent.proofs.commanding.put_lines.Given as goal

abbrev pub invariant-loop-i : goal.invariant-loop-i
invariant-loop-i l = record {
  text : l.fn.out ++ list_lines l.adaptors l.delivery.table.committed
      ≡ l.out ++ list_lines (drop l.i l.adaptors) (drop l.i l.delivery.table.committed);
  few : l.count ≤ l.i;
  count : length (live_from 0 l.adaptors) ≡ l.count + length (live_from l.i (drop l.i l.adaptors));
}
