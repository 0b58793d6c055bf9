use Rattle.std.proofs.Common.{◌≡◌, map, take}
use Rattle.chk_ctl_inspect.proofs.reports.books_of.Given as goal

abbrev pub invariant-loop-store : goal.invariant-loop-store
invariant-loop-store l =
    map (λ b. b.now) l.books.items ≡ map (λ n. n.seen.waiting.book) (take l.store-index l.stores)
