use Rattle.std.proofs.Common.{◌≡◌, take, drop, vec_capacity}
use Rattle.chk_acks.proofs.Gathers.{Gathering}
use Rattle.chk_acks.proofs.kept.gather.Given as goal

abbrev pub invariant-loop-row : goal.invariant-loop-row
invariant-loop-row l =
    Gathering l.initial.sinks.items (take l.row-index l.initial.rows) (take l.row-index l.rows)
    (drop l.row-index l.initial.rows) l.sinks.items l.used l.next
    × (drop l.row-index l.rows ≡ drop l.row-index l.initial.rows)
    × (vec_capacity l.sinks ≡ vec_capacity l.initial.sinks)
