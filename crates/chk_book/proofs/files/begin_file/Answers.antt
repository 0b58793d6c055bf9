use Rattle.std.proofs.lemmas.Result.{err_from_is_err_and}
use Rattle.chk_site.specs.Runs.{went_on, ended}
use Rattle.chk_book.proofs.files.begin_file.Goals as goal

pub returns-in_err-done-clause-told : goal.returns-in_err-done-clause-told
returns-in_err-done-clause-told g c =
    let p = err_from_is_err_and c.from_residual.result c.from_residual.ensures.1 in
    rw (p.1, p.2) (ended _ c.in_err-done.ensures c.remove-removed.ensures.told)

pub returns-in_err-done-2-clause-told : goal.returns-in_err-done-2-clause-told
returns-in_err-done-2-clause-told g c =
    let p = err_from_is_err_and c.from_residual-in_err-done-2.result c.from_residual-in_err-done-2.ensures.1 in
    rw (p.1, p.2)
    (went_on _ c.in_ok-done.ensures c.remove-removed.ensures.told (ended _ c.in_err-done-2.ensures c.create-created.ensures.told))

pub returns-clause-told : goal.returns-clause-told
returns-clause-told g c =
    went_on _ c.in_ok-done.ensures c.remove-removed.ensures.told
    (went_on _ c.in_ok-done-2.ensures c.create-created.ensures.told c.append_to.ensures.told)
