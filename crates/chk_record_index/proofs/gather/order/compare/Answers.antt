use Rattle.std.proofs.Common.{◌≡◌, ◌||◌, ◌&&◌, ap, arith, sym, ◌∙◌}
use Rattle.std.specs.Prelude.{nat_lt, nat_eq}
use Rattle.std.specs.Ordering.{is_lt}
use Rattle.std.proofs.lemmas.Bool.Decides.{nat_tests}
use Rattle.chk_record_index.specs.HeadRows.{row_begin}
use Rattle.chk_record_index.specs.Order.{row_rank, row_place}
use Rattle.chk_record_index.proofs.Places.{apart, same}
use Rattle.chk_record_index.proofs.gather.order.compare.Goals as goal

pub returns-then-first-second : goal.returns-then-first-second
returns-then-first-second c =
    let ranks = c.args.ranks.now in
    let a = c.args.a.now in
    let b = c.args.b.now in
    let rest = nat_lt a.end b.end || (nat_eq a.end b.end && nat_lt a.turn b.turn) in
    let by_rest : is_lt c.cmp.result ≡ rest = grind (arith, nat_tests, c.cmp.ensures) in
    by_rest
    ∙ sym (same (row_rank ranks a) (row_rank ranks b) (row_begin a) (row_begin b) rest c.place-first.ensures.low c.place-second.ensures.low
    (sym c.place-first.ensures.is ∙ (c.if-first-second.true ∙ c.place-second.ensures.is)))

pub returns : goal.returns
returns c =
    let ranks = c.args.ranks.now in
    let a = c.args.a.now in
    let b = c.args.b.now in
    let rest = nat_lt a.end b.end || (nat_eq a.end b.end && nat_lt a.turn b.turn) in
    let by_places : is_lt c.cmp-2.result ≡ nat_lt c.place-first.result c.place-second.result = grind (arith, nat_tests, c.cmp-2.ensures) in
    let is : nat_lt c.place-first.result c.place-second.result ≡ nat_lt (row_place ranks a) (row_place ranks b) =
    ap (λ n. nat_lt n c.place-second.result) c.place-first.ensures.is
    ∙ ap (λ n. nat_lt (row_place ranks a) n) c.place-second.ensures.is in
    by_places ∙ (is ∙ apart (row_rank ranks a) (row_rank ranks b) (row_begin a) (row_begin b) rest c.place-first.ensures.low c.place-second.ensures.low
    (λ e. c.if-first-second.false (c.place-first.ensures.is ∙ (e ∙ sym c.place-second.ensures.is))))
