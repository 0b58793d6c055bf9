use Rattle.std.proofs.Common.{◌≡◌, ◌≤◌, map, take, vec_capacity}
use Rattle.chk_acks.specs.Passes.{places_of}
use Rattle.chk_acks.specs.Keeping.{bare}
use Rattle.chk_acks.proofs.kept.list_unmarked.Given as goal

abbrev pub invariant-loop-place : goal.invariant-loop-place
invariant-loop-place l =
    (l.places.items ≡ places_of 0 (take l.place (map bare l.rows)))
    × (vec_capacity l.fn.places ≤ vec_capacity l.places)
