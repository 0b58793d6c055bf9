use Rattle.std.proofs.Common.{◌≡◌, ◌+◌, ℕ, subst}
use Rattle.std.specs.Prelude.{OnOk}
use Rattle.chk_book.specs.Books.{book_view}
use Rattle.chk_book.proofs.Segmented.{aside_stays}
use Rattle.chk_book.proofs.segmenter.Segmenter.finish.Goals as goal

pub returns-clause-raw : goal.returns-clause-raw
returns-clause-raw g c = c.enter.ensures.raw

pub returns-clause-own : goal.returns-clause-own
returns-clause-own g c = c.enter.ensures.own

pub returns-clause-same : goal.returns-clause-same
returns-clause-same g c = c.enter.ensures.same

pub returns-clause-only : goal.returns-clause-only
returns-clause-only g c = c.enter.ensures.only

pub returns-clause-last : goal.returns-clause-last
returns-clause-last g c = c.enter.ensures.last

pub returns-clause-cause : goal.returns-clause-cause
returns-clause-cause g c = c.enter.ensures.cause

pub returns-clause-next : goal.returns-clause-next
returns-clause-next g c =
    subst (λ (n : ℕ). OnOk c.enter.result ((book_view c.enter.new.book).next ≡ n + 1)) c.requires
    c.enter.ensures.next

pub returns-clause-aside : goal.returns-clause-aside
returns-clause-aside g c =
    aside_stays (book_view c.args.book.now) (book_view c.enter.new.book) c.enter.result c.enter.ensures.same
    c.enter.ensures.aside
