use Rattle.std.proofs.Common.{rules}
use Rattle.std.specs.Prelude.{bytes_eq}
use Rattle.std.specs.Ordering.{nat_cmp, is_lt}
use Rattle.std.specs.Cmp.Lexicographic.{slice_cmp}
use Rattle.std.proofs.lemmas.Cmp.{nat_list_cmp_total}
use Rattle.std.proofs.lemmas.Fn.{dedup_same}
use Rattle.std.proofs.lemmas.List.MinMax.{ranks_by}
use Rattle.std.proofs.lemmas.List.Sorted.{answers_always}
use Rattle.chk_site_mem_store.proofs.ListLemmas.{is_listing}
use Rattle.chk_site_mem_store.proofs.listing.list.Goals as goal

pub returns : goal.returns
returns c =
    is_listing c.args.folder.now c.args.files.now c.in_ok-names.names.items c.sort_by.new.self.items c.dedup_by.new.self.items
    c.in_ok-names.ensures c.in_ok-sort_by.ensures.permutation
    (c.in_ok-sort_by.ensures.sorted (λ a b. is_lt (slice_cmp nat_cmp a b)) (ranks_by nat_list_cmp_total (λ x. x)) (answers_always _ _ _ (λ f a r f' k. search rules)))
    (dedup_same _ bytes_eq _ (λ x y b f' x' y' k. search rules) c.sort_by.new.self.items c.dedup_by.new.self.items c.dedup_by.ensures.filtered)
