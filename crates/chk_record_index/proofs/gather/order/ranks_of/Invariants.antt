use Rattle.std.proofs.Common.{◌≡◌, map, take}
use Rattle.chk_record_index.specs.Order.{rank_in}
use Rattle.chk_record_index.proofs.gather.order.ranks_of.Given as goal

abbrev pub invariant-loop-origin : goal.invariant-loop-origin
invariant-loop-origin l = l.ranks.items ≡ map (rank_in l.origins) (take l.origin-index l.origins)
