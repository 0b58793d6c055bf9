use Rattle.std.proofs.Common.{◌≡◌, drop}
use Rattle.chk_agent_delivery.proofs.delivery.drop_owners.Given as goal

abbrev pub invariant-loop-dropped : goal.invariant-loop-dropped
invariant-loop-dropped l = l.owners.items ≡ drop l._dropped l.fn.owners.items
