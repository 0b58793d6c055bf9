use Rattle.std.proofs.Common.{◌≡◌, drop}
use Rattle.chk_ctl_status.specs.Lags.{greatest}
use Rattle.chk_ctl_status.proofs.lags.greatest.Given as goal

abbrev pub invariant-loop-book : goal.invariant-loop-book
invariant-loop-book l =
    greatest l.most (record { source = l.source; kind = l.kind; name = l.name })
    (drop l.book-index l.books)
    ≡ greatest l.least (record { source = l.source; kind = l.kind; name = l.name }) l.books
