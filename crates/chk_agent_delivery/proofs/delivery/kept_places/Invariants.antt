use Rattle.std.proofs.Common.{◌≡◌, map, take}
use Rattle.chk_agent_delivery.specs.Marks.{is_left}
use Rattle.chk_agent_delivery.proofs.delivery.kept_places.Given as goal

abbrev pub invariant-loop-place : goal.invariant-loop-place
invariant-loop-place l = l.kept.items ≡ map (is_left l.marks) (take l.place l.owners.items)
