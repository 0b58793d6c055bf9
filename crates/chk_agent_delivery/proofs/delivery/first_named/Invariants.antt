use Rattle.std.proofs.Common.{◌≡◌, drop}
use Rattle.std.specs.Prelude.{filter}
use Rattle.chk_acks.specs.Rows.{is_unmarked}
use Rattle.chk_agent_delivery.specs.Turns.{first_named}
use Rattle.chk_agent_delivery.proofs.delivery.first_named.Given as goal

abbrev pub invariant-loop-skip : goal.invariant-loop-skip
invariant-loop-skip l =
    first_named l.stems (filter is_unmarked l.acks.rows) ≡ first_named l.stems (drop l.skip (filter is_unmarked l.acks.rows))
