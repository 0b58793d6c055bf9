use Rattle.std.proofs.Common.{rules, ◌≡◌, map, subst, List}
use Rattle.std.specs.Borrow.{Bor}
use Rattle.std.specs.Ordering.{is_lt}
use Rattle.std.specs.List.Sorted.{IsPermutation}
use Rattle.std.proofs.lemmas.Fn.{always_returns_same}
use Rattle.std.proofs.lemmas.List.Sorted.{IsPermutation-map}
use Rattle.chk_record_index.specs.declared.origins.Origin.{Origin}
use Rattle.chk_record_index.specs.Order.{origin_before}
use Rattle.chk_record_index.proofs.Ranks.{refs_ordered}
use Rattle.chk_record_index.proofs.gather.order.in_order.Goals as goal

pub returns : goal.returns
returns c =
    let lent : List (Bor Origin) = c.in_ok-sorted.sorted.items in
    let sorted : List (Bor Origin) = c.sort_by.new.self.items in
    let before : Bor Origin → Bor Origin → _ = λ o p. origin_before o.now p.now in
    let are : map (λ (o : Bor Origin). o.now) lent ≡ c.args.origins.now = search rules in
    record {
      same = subst (λ l. IsPermutation l (map (λ (o : Bor Origin). o.now) sorted)) are
          (IsPermutation-map (λ (o : Bor Origin). o.now) lent sorted c.sort_by.ensures.permutation);
      rise = c.in_ok-sort_by.ensures.sorted before refs_ordered
          (always_returns_same _ (λ a r. is_lt r ≡ origin_before a.0.now.now a.1.0.now.now) _ (λ a r f k. search rules));
    }
