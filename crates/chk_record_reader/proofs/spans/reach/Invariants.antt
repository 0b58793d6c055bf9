use Rattle.std.proofs.Common.{◌≤◌}
use Rattle.chk_record_index.specs.Order.{lent_head}
use Rattle.chk_record_reader.specs.Spans.{room_of}
use Rattle.chk_record_reader.proofs.spans.reach.Given as goal

abbrev pub invariant-loop-next : goal.invariant-loop-next
invariant-loop-next l = record {
  enough : room_of (lent_head l.first) ≤ l.size;
  few : l.size ≤ 1065001;
}
