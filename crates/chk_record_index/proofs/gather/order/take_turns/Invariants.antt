use Rattle.std.proofs.Common.{◌≡◌, map, take}
use Rattle.chk_record_index.specs.Order.{without_turn}
use Rattle.chk_record_index.proofs.Turning.{Numbered}
use Rattle.chk_record_index.proofs.gather.order.take_turns.Given as goal

abbrev pub invariant-loop-row : goal.invariant-loop-row
invariant-loop-row l =
    (map without_turn l.rows ≡ map without_turn l.initial.rows) × (l.next ≡ l.row-index)
    × Numbered l.next (take l.row-index l.rows)
