use Rattle.std.proofs.Common.{rules}
use Rattle.std.specs.Ordering.{nat_cmp, is_lt}
use Rattle.std.specs.Cmp.Lexicographic.{slice_cmp}
use Rattle.std.proofs.lemmas.Cmp.{nat_list_cmp_total}
use Rattle.std.proofs.lemmas.List.MinMax.{ranks_by}
use Rattle.std.proofs.lemmas.List.Sorted.{answers_always}
use Rattle.chk_site_listings.proofs.Ordered.{in_order}
use Rattle.chk_site_listings.proofs.naming.put_in_order.Goals as goal

pub returns : goal.returns
returns c =
    in_order c.sort_unstable_by.new.self.items
    (c.sort_unstable_by.ensures.sorted (λ a b. is_lt (slice_cmp nat_cmp a b))
    (ranks_by nat_list_cmp_total (λ x. x)) (answers_always _ _ _ (λ f a r f' k. search rules)))
