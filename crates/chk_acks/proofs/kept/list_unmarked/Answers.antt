use Rattle.std.proofs.Common.{arith, sym, length, map, take, get_or, ◌≤◌, ◌<◌, cond, [], ◌∷◌, ◌≡◌, ◌++◌, ◌+◌}
use Rattle.std.proofs.lemmas.Grind.{common_steps}
use Rattle.std.proofs.lemmas.List.{get_or-map, length-map, length-take-le}
use Rattle.chk_acks.specs.Passes.{places_of}
use Rattle.chk_acks.specs.Keeping.{bare}
use Rattle.chk_acks.proofs.Keeps.{no_kept}
use Rattle.chk_acks.proofs.PassLemmas.{places_of_more, length-places_of}
use Rattle.chk_acks.proofs.kept.list_unmarked.Goals as goal
use Rattle.chk_acks.proofs.kept.list_unmarked.Goals.{then-not-row, else-not-row}

pub loop-place-preserved : goal.loop-place-preserved
loop-place-preserved c =
    let rows = map bare c.args.rows.now in
    let place = c.loop-place.place in
    let row = get_or c.args.rows.now place no_kept in
    let all : length rows ≡ length c.args.rows.now = length-map c.args.rows.now bare in
    let within : place < length rows = omega (arith, all, c.loop-place-test.true) in
    let is : bare row ≡ get_or rows place (bare row) =
    sym (get_or-map bare c.args.rows.now place no_kept (bare row) c.loop-place-test.true) in
    let more : places_of 0 (take (place + 1) rows)
    ≡ places_of 0 (take place rows) ++ cond row.marked [] (place ∷ []) =
    places_of_more rows place (bare row) within is in
    let few : length (places_of 0 (take place rows)) ≤ length (take place rows) =
    length-places_of 0 (take place rows) in
    let size : length (take place rows) ≡ place = length-take-le place rows (omega (arith, within)) in
    elim c.if-not-row.branch [
      | then-not-row w ↦ rw w.places-is (grind (arith, common_steps))
      | else-not-row w ↦ rw w.places-is (grind (arith, common_steps))
    ]
