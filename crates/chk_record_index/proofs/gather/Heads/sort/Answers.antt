use Rattle.std.proofs.Common.{◌≡◌, rules, map, List, ℕ, Ok, Err, Result, subst, sym, ap, arith, ◌∙◌, All}
use Rattle.std.specs.Prelude.{OnErr}
use Rattle.std.specs.Ordering.{is_lt}
use Rattle.std.specs.List.Sorted.{IsSortedBy, IsPermutation}
use Rattle.std.proofs.lemmas.Fn.{always_returns_same}
use Rattle.std.proofs.lemmas.List.Sorted.{All-permutation}
use Rattle.chk_record_index.specs.HeadRows.{head_in_row}
use Rattle.chk_record_index.specs.Order.{in_head_order, rank_in, row_first, without_turn}
use Rattle.chk_record_index.proofs.Ranks.{IsKnown, rows_first}
use Rattle.chk_record_index.proofs.Turning.{heads_same, kept_known, written, turned_rows}
use Rattle.chk_record_index.proofs.Sorting.{as_std}
use Rattle.chk_record_index.proofs.gather.Heads.sort.Goals as goal

when_err : {T E P : Type 0} (r : Result T E) → P → OnErr r P
when_err (Ok value) p = tt
when_err (Err fault) p = p

pub invariant_of-self : goal.invariant_of-self
invariant_of-self c =
    let origins = c.self.inside.origins.items in
    let rows = c.self.inside.rows.items in
    let turned = c.take_turns.new.rows in
    let same = subst (λ l. map without_turn turned ≡ map without_turn l) c.deref_mut.ensures.value c.take_turns.ensures.same in
    record {
      known = subst (All (IsKnown origins)) (sym (written rows turned c.self.inside.rows.len same (omega (arith, c.self.inside.rows.ok.0))))
          (kept_known origins rows turned same c.self.invariant.known);
      kept = c.self.invariant.kept;
    }

pub returns-in_err-take_turns-clause-err : goal.returns-in_err-take_turns-clause-err
returns-in_err-take_turns-clause-err c =
    let origins = c.self.inside.origins.items in
    let rows = c.self.inside.rows.items in
    let turned = c.take_turns.new.rows in
    let same = subst (λ l. map without_turn turned ≡ map without_turn l) c.deref_mut.ensures.value c.take_turns.ensures.same in
    when_err c.from_residual-in_err-take_turns.result
    (ap (map (head_in_row origins)) (written rows turned c.self.inside.rows.len same (omega (arith, c.self.inside.rows.ok.0)))
    ∙ (heads_same origins rows turned same ∙ c.self.view_is))

pub invariant_of-self-2 : goal.invariant_of-self-2
invariant_of-self-2 c =
    let origins = c.self.inside.origins.items in
    let rows = c.self.inside.rows.items in
    let turned = c.take_turns.new.rows in
    let same = subst (λ l. map without_turn turned ≡ map without_turn l) c.deref_mut.ensures.value c.take_turns.ensures.same in
    let moved : IsPermutation turned c.sort_unstable_by.new.self.items =
    subst (λ l. IsPermutation l c.sort_unstable_by.new.self.items) (written rows turned c.self.inside.rows.len same (omega (arith, c.self.inside.rows.ok.0)))
    c.sort_unstable_by.ensures.permutation in
    record {
      known = All-permutation (IsKnown origins) turned c.sort_unstable_by.new.self.items moved
          (kept_known origins rows turned same c.self.invariant.known);
      kept = c.self.invariant.kept;
    }

pub returns-clause-ok : goal.returns-clause-ok
returns-clause-ok c =
    let origins = c.self.inside.origins.items in
    let rows = c.self.inside.rows.items in
    let turned = c.take_turns.new.rows in
    let sorted = c.sort_unstable_by.new.self.items in
    let ranks : List ℕ = c.in_ok-ranks.ranks.items in
    let are : ranks ≡ map (rank_in origins) origins =
    subst (λ l. ranks ≡ map (rank_in l) l) c.deref.ensures.value c.in_ok-ranks.ensures in
    let same = subst (λ l. map without_turn turned ≡ map without_turn l) c.deref_mut.ensures.value c.take_turns.ensures.same in
    let order = as_std (row_first ranks) (rows_first ranks).order in
    let compares = always_returns_same _ (λ a r. is_lt r ≡ row_first ranks a.0.now a.1.0.now) _
    (λ a r f k. search rules) in
    let up : IsSortedBy (row_first ranks) sorted = c.sort_unstable_by.ensures.sorted (row_first ranks) order compares in
    let moved : IsPermutation turned sorted =
    subst (λ l. IsPermutation l sorted) (written rows turned c.self.inside.rows.len same (omega (arith, c.self.inside.rows.ok.0))) c.sort_unstable_by.ensures.permutation in
    turned_rows origins rows turned sorted c.self.invariant.known same c.in_ok-take_turns.ensures.turns
    moved (subst (λ l. IsSortedBy (row_first l) sorted) are up)
    ∙ ap in_head_order c.self.view_is
