use Rattle.std.proofs.Common.{◌≡◌, ℕ, sym, subst}
use Rattle.std.proofs.lemmas.Result.{err_from_is_err_and}
use Rattle.chk_chunk.specs.Keys.{Stream}
use Rattle.chk_book.specs.Books.{book_view}
use Rattle.chk_archive_plan.specs.Starts.{start_known}
use Rattle.chk_archive.specs.Starts.{start_in}
use Rattle.chk_archive.proofs.StartsAgree.{all_in, other_in, told_so}
use Rattle.chk_archive.proofs.starts.check_starts.Goals as goal

pub returns-in_err-known-clause-err : goal.returns-in_err-known-clause-err
returns-in_err-known-clause-err c =
    let p = err_from_is_err_and c.from_residual.result c.from_residual.ensures.1 in
    rw (p.1, p.2) tt

pub returns-in-Some-clause-err : goal.returns-in-Some-clause-err
returns-in-Some-clause-err c =
    let es = (book_view c.args.book.now).ends in
    let ks = c.as_slice-ends.result.now in
    told_so c.args.files.now es c.args.heads.now c.in-Some.index c.head_fault.result c.head_fault.ensures
    (other_in ks es c.args.heads.now
    (subst (λ l. (n : ℕ) (s : Stream) → start_known n l s ≡ start_in n es s) (sym c.as_slice-ends.ensures.value)
    c.in_ok-known.ensures.starts) c.in-Some.index c.in-Some.ensures.some)

pub returns-clause-ok : goal.returns-clause-ok
returns-clause-ok c =
    let es = (book_view c.args.book.now).ends in
    let ks = c.as_slice-ends.result.now in
    all_in ks es c.args.heads.now
    (subst (λ l. (n : ℕ) (s : Stream) → start_known n l s ≡ start_in n es s) (sym c.as_slice-ends.ensures.value)
    c.in_ok-known.ensures.starts) c.in-None.ensures.none
